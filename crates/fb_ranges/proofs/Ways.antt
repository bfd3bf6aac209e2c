-- Ways that meet.
use Rattle.std.proofs.Common.{◌≡◌, ℕ, zero, suc, ◌+◌, ◌<◌, ◌≤◌, nat_lt, Bool, true, false, ◌||◌, List, [], ◌∷◌, ◌++◌, length, take, get_or, Option, Some, None, refl, sym, ap, ap₂, ◌∙◌, arith}
use Rattle.std.proofs.Math.Path.{fun_ext}
use Rattle.std.proofs.lemmas.List.{map_push, take_more}
use Rattle.std.specs.Prelude.{if◌then◌else◌, string_bytes}
use Rattle.std.specs.Option.{option_map}
use Rattle.std.specs.Map.{lookup}
use Rattle.std.specs.Str.{bytes_eq}
use Rattle.std.specs.declared.string.String.{String}
use Rattle.std.specs.declared.alloc.Global.{Global}
use Rattle.std.specs.Borrow.{Bor}
use Rattle.st_types.specs.declared.term.VariableName.{VariableName}
use Rattle.fb_model.specs.Names.{Name, is_in}
use Rattle.fb_model.specs.Spans.{Span, joined}
use Rattle.fb_model.specs.Clear.{Spans, reset}
use Rattle.fb_model.proofs.Lists.{same_name}
use Rattle.fb_model.proofs.Names.{eq_turned}
use Rattle.fb_ranges.specs.declared.way.Reached.{Reached}
use Rattle.fb_ranges.specs.Meeting.{Besides, Dated, Mark, joint, marked, met, ranges_after, row_after}
use Rattle.fb_ranges_intervals.specs.Views.{span_of}
use Rattle.fb_ranges.specs.Views.{mark_in, names_in, names_of}
use Rattle.fb_ranges.proofs.Covers.{joined_same, joined_again, joined_twice}
use Rattle.fb_ranges.proofs.Joins.{in_push}

-- ---- all ways

-- one more way, before those that are still to be examined
pub joint_again : (i : ℕ) (s t u : Spans) → joint (i + 1) (joint i s t) u ≡ joint i s (λ x. joined (t x) (u x))
joint_again zero s t u = refl
joint_again (suc i) s t u = ap (λ n. joint n (joint (suc i) s t) u) (let e : suc i + 1 ≡ suc (suc i) = omega arith in e) ∙ fun_ext (λ x. sym (joined_again (s x) (t x) (u x)))

-- ---- one variable

not_less : (n m : ℕ) → m ≤ n → nat_lt n m ≡ false
not_less n m h = grind (arith, h)

is_less : (n m : ℕ) → n < m → nat_lt n m ≡ true
is_less n m h = grind (arith, h)

-- as many ways as there are
met_now : (i : ℕ) (r before : Span) → met i (Some (r, i)) before ≡ r
met_now i r before = ap (λ b. if b then joined r before else r) (not_less i i (omega arith))

pub met_again : (i : ℕ) (m : Mark) (before : Span) → met i m (met i m before) ≡ met i m before
met_again i None before = refl
met_again i (Some m) before = by (nat_lt m.1 i) where
  by : (b : Bool) → (if b then joined m.0 (if b then joined m.0 before else m.0) else m.0) ≡ (if b then joined m.0 before else m.0)
  by true = joined_again m.0 m.0 before ∙ ap (λ r. joined r before) (joined_same m.0)
  by false = refl

-- a way that touches it twice
row_again : (i : ℕ) (m : Mark) (before end : Span) → row_after i (Some (row_after i m before end, i + 1)) before end ≡ row_after i m before end
row_again zero m before end = refl
row_again (suc i) m before end =
    let r = joined (met (suc i) m before) end in
    ap (λ b. joined (if b then joined r before else r) end) (not_less (suc i + 1) (suc i) (omega arith)) ∙ joined_twice (met (suc i) m before) end

-- a way that does not touch it
met_untouched : (i : ℕ) (m : Mark) (spans : Spans) (x : Name) → Dated i m → met (i + 1) m (spans x) ≡ joint i (λ y. met i m (spans y)) spans x
met_untouched zero None spans x h = refl
met_untouched zero (Some m) spans x h = absurd (let a = h.0 in let b = h.1 in omega (arith, a, b))
met_untouched (suc i) None spans x h = sym (joined_same (spans x))
met_untouched (suc i) (Some m) spans x h =
    ap (λ b. if b then joined m.0 (spans x) else m.0) (is_less m.1 (suc i + 1) (let a = h.1 in omega (arith, a)))
    ∙ by (nat_lt m.1 (suc i)) where
      by : (b : Bool) → joined m.0 (spans x) ≡ joined (if b then joined m.0 (spans x) else m.0) (spans x)
      by true = sym (joined_twice m.0 (spans x))
      by false = refl

-- ---- all variables

pub dated_next : (i : ℕ) (xs : List Name) (spans ends : Spans) (marks : Name → Mark) (x : Name) → Dated i (marks x) → Dated (i + 1) (marked i xs spans ends marks x)
dated_next i xs spans ends marks x h = by (is_in x xs) where
  later : (m : Mark) → Dated i m → Dated (i + 1) m
  later None k = tt
  later (Some m) k = (k.0, (let a = k.1 in omega (arith, a)))

  by : (b : Bool) → Dated (i + 1) (if b then Some (row_after i (marks x) (spans x) (ends x), i + 1) else marks x)
  by true = (omega arith, omega arith)
  by false = later (marks x) h

pub ranges_next : (i : ℕ) (xs : List Name) (spans ends later : Spans) (marks : Name → Mark) → ((x : Name) → Dated i (marks x)) → Besides xs spans later
    → ranges_after (i + 1) (marked i xs spans ends marks) later ≡ joint i (ranges_after i marks spans) (reset xs ends spans)
ranges_next i xs spans ends later marks dated same = fun_ext (λ x. by x (is_in x xs) refl (same x) (dated x)) where
  all : Spans
  all = reset xs ends spans

  touched : (i : ℕ) (x : Name) → all x ≡ ends x → row_after i (marks x) (spans x) (ends x) ≡ joint i (ranges_after i marks spans) all x
  touched zero x e = sym e
  touched (suc i) x e = ap (joined (met (suc i) (marks x) (spans x))) (sym e)

  joint_at : (i : ℕ) (x : Name) (s t u v : Spans) → s x ≡ u x → t x ≡ v x → joint i s t x ≡ joint i u v x
  joint_at zero x s t u v h k = k
  joint_at (suc i) x s t u v h k = ap₂ joined h k

  by : (x : Name) (b : Bool) → is_in x xs ≡ b → (is_in x xs ≡ false → later x ≡ spans x) → Dated i (marks x)
      → met (i + 1) (if b then Some (row_after i (marks x) (spans x) (ends x), i + 1) else marks x) (later x) ≡ joint i (ranges_after i marks spans) all x
  by x true e k d = met_now (i + 1) (row_after i (marks x) (spans x) (ends x)) (later x) ∙ touched i x (ap (λ c. if c then ends x else spans x) e)
  by x false e k d =
      ap (met (i + 1) (marks x)) (k e)
      ∙ met_untouched i (marks x) spans x d
      ∙ joint_at i x (λ y. met i (marks x) (spans y)) spans (ranges_after i marks spans) all refl (sym (ap (λ c. if c then ends x else spans x) e))

abbrev mark : Span → ℕ → Mark
mark r n = Some (r, n)

pub same_mark : (i j : ℕ) (m : Mark) (r s before end : Span) → j ≡ i → r ≡ before → s ≡ end → mark (row_after j m r s) (j + 1) ≡ mark (row_after i m before end) (i + 1)
same_mark i j m r s before end e f g = ap (λ k. mark (row_after k m r s) (k + 1)) e ∙ ap₂ (λ p q. mark (row_after i m p q) (i + 1)) f g

-- the next of listed variables is touched
pub next_mark : (names : List (Bor VariableName)) (k : ℕ) (n : Bor VariableName) (i : ℕ) (spans ends : Spans) (marks before now : Name → Mark) (x : Name)
    → k < length names → n ≡ get_or names k n → x ≡ string_bytes n.now.name → ((y : Name) → before y ≡ marked i (names_of (take k names)) spans ends marks y)
    → ((y : Name) → now y ≡ (if bytes_eq x y then Some (row_after i (before x) (spans x) (ends x), i + 1) else before y))
    → (y : Name) → now y ≡ marked i (names_of (take (k + 1) names)) spans ends marks y
next_mark names k n i spans ends marks before now x lt is name start put y =
    put y
    ∙ by (bytes_eq x y) (is_in y xs) refl refl
    ∙ sym (ap (λ b. if b then Some (row_after i (marks y) (spans y) (ends y), i + 1) else marks y)
    (ap (is_in y) (ap names_of (take_more names k n lt ∙ ap (λ m. take k names ++ m ∷ []) (sym is)) ∙ map_push (λ (v : Bor VariableName). string_bytes v.now.name) (take k names) n ∙ ap (λ z. xs ++ z ∷ []) (sym name)) ∙ in_push y x xs ∙ ap (λ b. is_in y xs || b) (eq_turned y x))) where
      xs : List Name
      xs = names_of (take k names)

      touch : Name → Mark → Mark
      touch z m = Some (row_after i m (spans z) (ends z), i + 1)

      at : (b : Bool) → is_in y xs ≡ b → before y ≡ (if b then touch y (marks y) else marks y)
      at b e = start y ∙ ap (λ c. if c then touch y (marks y) else marks y) e

      here : (b : Bool) → before y ≡ (if b then touch y (marks y) else marks y) → touch y (before y) ≡ touch y (marks y)
      here true e = ap (touch y) e ∙ ap (λ r. mark r (i + 1)) (row_again i (marks y) (spans y) (ends y))
      here false e = ap (touch y) e

      or_true : (b : Bool) → touch y (marks y) ≡ (if b || true then touch y (marks y) else marks y)
      or_true true = refl
      or_true false = refl

      or_false : (b : Bool) → (if b then touch y (marks y) else marks y) ≡ (if b || false then touch y (marks y) else marks y)
      or_false true = refl
      or_false false = refl

      by : (a b : Bool) → bytes_eq x y ≡ a → is_in y xs ≡ b → (if a then touch x (before x) else before y) ≡ (if b || a then touch y (marks y) else marks y)
      by true b e f = ap (λ z. touch z (before z)) (same_name x y e) ∙ here b (at b f) ∙ or_true b
      by false b e f = at b f ∙ or_false b

-- ---- the table

abbrev shown : Reached → Span × ℕ
shown w = (span_of w.range, w.ways)

-- a row for a variable
pub put_mark : (old new : List (String Global × Reached)) (x : Name) (v : Reached) (r : Span) → ((y : Name) → lookup (λ z. bytes_eq y (string_bytes z)) new ≡ (if bytes_eq x y then Some v else lookup (λ z. bytes_eq y (string_bytes z)) old))
    → span_of v.range ≡ r → (y : Name) → mark_in new y ≡ (if bytes_eq x y then Some (r, v.ways) else mark_in old y)
put_mark old new x v r h e y = ap (option_map shown) (h y) ∙ by (bytes_eq x y) (lookup (λ z. bytes_eq y (string_bytes z)) old) where
  by : (b : Bool) (row : Option Reached) → option_map shown (if b then Some v else row) ≡ (if b then Some (r, v.ways) else option_map shown row)
  by true row = ap (λ s. mark s v.ways) e
  by false row = refl

absent : (x : Name) (rows : List (String Global × Reached)) → is_in x (names_in rows) ≡ false → mark_in rows x ≡ None
absent x [] h = refl
absent x (e ∷ rows) h = by (bytes_eq x (string_bytes e.0)) h (absent x rows) where
  by : (b : Bool) → (b || is_in x (names_in rows)) ≡ false → (is_in x (names_in rows) ≡ false → mark_in rows x ≡ None)
      → option_map shown (if b then Some e.1 else lookup (λ z. bytes_eq x (string_bytes z)) rows) ≡ None
  by true h next = cc
  by false h next = next h

-- the ranges of all variables, from those of the ones with a row
pub all_marks : (i : ℕ) (rows : List (String Global × Reached)) (spans : Spans) → reset (names_in rows) (ranges_after i (mark_in rows) spans) spans ≡ ranges_after i (mark_in rows) spans
all_marks i rows spans = fun_ext (λ x. by x (is_in x (names_in rows)) refl) where
  by : (x : Name) (b : Bool) → is_in x (names_in rows) ≡ b → (if b then met i (mark_in rows x) (spans x) else spans x) ≡ met i (mark_in rows x) (spans x)
  by x true e = refl
  by x false e = sym (ap (λ m. met i m (spans x)) (absent x rows e))

-- the range that a variable gets, where some have theirs
pub row_at : (i : ℕ) (xs : List Name) (marks : Name → Mark) (spans before : Spans) (x : Name) → before ≡ reset xs (ranges_after i marks spans) spans → met i (marks x) (before x) ≡ ranges_after i marks spans x
row_at i xs marks spans before x e = ap (λ s. met i (marks x) (s x)) e ∙ by (is_in x xs) where
  by : (b : Bool) → met i (marks x) (if b then met i (marks x) (spans x) else spans x) ≡ met i (marks x) (spans x)
  by true = met_again i (marks x) (spans x)
  by false = refl
