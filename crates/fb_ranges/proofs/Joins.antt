-- Ranges that are copied and set, a name at a time.
use Rattle.std.proofs.Common.{◌≡◌, ℕ, zero, suc, ◌+◌, ◌<◌, Bool, true, false, ◌||◌, List, [], ◌∷◌, ◌++◌, length, take, get_or, Some, refl, sym, ap, ap₂, ◌∙◌, arith}
use Rattle.std.proofs.Math.Path.{fun_ext}
use Rattle.std.specs.Prelude.{if◌then◌else◌, string_bytes, slice_get, ◌&&◌}
use Rattle.std.specs.Str.{bytes_eq}
use Rattle.std.specs.declared.string.String.{String}
use Rattle.std.specs.declared.alloc.Global.{Global}
use Rattle.std.proofs.lemmas.List.{map_push, take_more}
use Rattle.fb_model.specs.Names.{Name, is_in}
use Rattle.fb_model.proofs.Lists.{same_name}
use Rattle.fb_model.specs.Spans.{Span}
use Rattle.fb_model.specs.Clear.{Spans, changed, reset}
use Rattle.fb_model.proofs.Names.{eq_turned}
use Rattle.fb_ranges.specs.Meeting.{Besides}
use Rattle.fb_ranges.specs.Views.{names_in, names_of}
use Rattle.std.specs.Borrow.{Bor}
use Rattle.st_types.specs.declared.term.VariableName.{VariableName}

or_none : (b : Bool) → (b || false) ≡ b
or_none true = refl
or_none false = refl

or_again : (a b c : Bool) → (a || (b || c)) ≡ ((a || b) || c)
or_again true b c = refl
or_again false b c = refl

pub in_push : (y x : Name) (xs : List Name) → is_in y (xs ++ x ∷ []) ≡ (is_in y xs || bytes_eq y x)
in_push y x [] = or_none (bytes_eq y x)
in_push y x (z ∷ xs) = ap (λ b. bytes_eq y z || b) (in_push y x xs) ∙ or_again (bytes_eq y z) (is_in y xs) (bytes_eq y x)

-- one more variable has its row
pub reset_push : (xs : List Name) (x : Name) (rows spans : Spans) → reset (xs ++ x ∷ []) rows spans ≡ changed x (λ r. rows x) (reset xs rows spans)
reset_push xs x rows spans = fun_ext (λ y. ap (λ b. if b then rows y else spans y) (in_push y x xs ∙ ap (λ b. is_in y xs || b) (eq_turned y x)) ∙ by y (is_in y xs) (bytes_eq x y) refl) where
  by : (y : Name) (a b : Bool) → bytes_eq x y ≡ b → (if a || b then rows y else spans y) ≡ (if b then rows x else if a then rows y else spans y)
  by y true true e = ap rows (sym (same_name x y e))
  by y false true e = ap rows (sym (same_name x y e))
  by y true false e = refl
  by y false false e = refl

-- only these variables have changed, and have their ranges back
pub taken_back : (xs : List Name) (spans others : Spans) → Besides xs spans others → reset xs spans others ≡ spans
taken_back xs spans others h = fun_ext (λ y. by y (is_in y xs) refl) where
  by : (y : Name) (b : Bool) → is_in y xs ≡ b → (if b then spans y else others y) ≡ spans y
  by y true e = refl
  by y false e = h y e

-- ranges at the end, of variables besides which nothing has changed
pub ended_at : (xs : List Name) (spans after ends : Spans) → Besides xs spans after → ((base : Spans) → reset xs ends base ≡ reset xs after base) → reset xs ends spans ≡ after
ended_at xs spans after ends h same = same spans ∙ fun_ext (λ y. by y (is_in y xs) refl) where
  by : (y : Name) (b : Bool) → is_in y xs ≡ b → (if b then after y else spans y) ≡ after y
  by y true e = refl
  by y false e = sym (h y e)

-- variables that are set anyway
pub reset_besides : (xs : List Name) (rows spans others : Spans) → Besides xs spans others → reset xs rows others ≡ reset xs rows spans
reset_besides xs rows spans others h = fun_ext (λ y. by y (is_in y xs) refl) where
  by : (y : Name) (b : Bool) → is_in y xs ≡ b → (if b then rows y else others y) ≡ (if b then rows y else spans y)
  by y true e = refl
  by y false e = h y e

-- the variable of a FOR after its iterations, and the others as before them
pub iterations_leave : (xs : List Name) (rows spans : Spans) (x : Name) (own left : Span) → changed x (λ r. left) (reset xs rows (changed x (λ r. own) (reset xs rows spans))) ≡ changed x (λ r. left) (reset xs rows spans)
iterations_leave xs rows spans x own left = fun_ext (λ y. by y (bytes_eq x y) (is_in y xs)) where
  by : (y : Name) (a b : Bool) → (if a then left else if b then rows y else if a then own else if b then rows y else spans y) ≡ (if a then left else if b then rows y else spans y)
  by y true b = refl
  by y false true = refl
  by y false false = refl

-- ---- a name at a time

take_get : {X : Type 0} (xs : List X) (i : ℕ) (e : X) → Some e ≡ slice_get xs i → take (i + 1) xs ≡ take i xs ++ e ∷ []
take_get [] zero e h = cc
take_get [] (suc i) e h = cc
take_get (x ∷ xs) zero e h = let same : e ≡ x = cc in ap (λ y. y ∷ []) (sym same)
take_get (x ∷ xs) (suc i) e h = ap (λ n. take n (x ∷ xs)) (let f : suc i + 1 ≡ suc (i + 1) = omega arith in f) ∙ ap (λ ys. x ∷ ys) (take_get xs i e h)

-- the variable of the next row gets its range
pub next_row : {A : Type 0} (rows : List (String Global × A)) (i : ℕ) (e : String Global × A) (both : Spans) (before now old : Spans) (x : Name) (r : Span)
    → Some e ≡ slice_get rows i → x ≡ string_bytes e.0 → r ≡ both x → before ≡ reset (names_in (take i rows)) both old → now ≡ changed x (λ s. r) before
    → now ≡ reset (names_in (take (i + 1) rows)) both old
next_row {A} rows i e both before now old x r is name range start put =
    put
    ∙ ap₂ (λ y z. changed y (λ s. z) before) name (range ∙ ap both name)
    ∙ ap (λ z. changed (string_bytes e.0) (λ s. both (string_bytes e.0)) z) start
    ∙ sym (reset_push (names_in (take i rows)) (string_bytes e.0) both old)
    ∙ ap (λ ns. reset ns both old) (sym (ap names_in (take_get rows i e is) ∙ map_push (λ (p : String Global × A). string_bytes p.0) (take i rows) e))

-- the next of listed variables gets its row
pub next_name : (names : List (Bor VariableName)) (i : ℕ) (n : Bor VariableName) (rows : Spans) (before now old : Spans) (x : Name) (r : Span)
    → i < length names → n ≡ get_or names i n → x ≡ string_bytes n.now.name → r ≡ rows x → before ≡ reset (names_of (take i names)) rows old → now ≡ changed x (λ s. r) before
    → now ≡ reset (names_of (take (i + 1) names)) rows old
next_name names i n rows before now old x r lt is name range start put =
    put
    ∙ ap₂ (λ y z. changed y (λ s. z) before) name (range ∙ ap rows name)
    ∙ ap (λ z. changed (string_bytes n.now.name) (λ s. rows (string_bytes n.now.name)) z) start
    ∙ sym (reset_push (names_of (take i names)) (string_bytes n.now.name) rows old)
    ∙ ap (λ ns. reset ns rows old) (sym (ap names_of (take_more names i n lt ∙ ap (λ m. take i names ++ m ∷ []) (sym is)) ∙ map_push (λ (v : Bor VariableName). string_bytes v.now.name) (take i names) n))

and_false : (a : Bool) → false ≡ (a && false)
and_false true = refl
and_false false = refl

and_true : (a : Bool) → a ≡ (a && true)
and_true true = refl
and_true false = refl

-- whether the variables up to here lie in their rows, and the next one
pub kept_not : (kept before w : Bool) → kept ≡ false → w ≡ false → kept ≡ (before && w)
kept_not kept before w k e = k ∙ and_false before ∙ ap (λ b. before && b) (sym e)

pub kept_so : (kept before w : Bool) → kept ≡ before → w ≡ true → kept ≡ (before && w)
kept_so kept before w k e = k ∙ and_true before ∙ ap (λ b. before && b) (sym e)
