-- A round leaves less to do: from round 65 on, each that enlarges something takes an end to its type's end.
use Rattle.std.proofs.Common.{ℕ, ◌≡◌, ◌+◌, ◌-◌, nat_le, ◌<◌, ◌≤◌, ◌⊎◌, inl, inr, ℤ, int_eq, int_lt, nat_lt, Bool, true, false, ◌&&◌, List, [], ◌∷◌, map, refl, sym, ap, subst, arith, if◌then◌else◌}
use Rattle.std.specs.Int.{int_min, int_max}
use Rattle.std.proofs.lemmas.Bool.Decides.{Decides-int_eq, nat_tests}
use Rattle.std.proofs.lemmas.Int.{ints, clamps}
use Rattle.fb_words.specs.declared.elem_type.ElemType.{ElemType}
use Rattle.fb_model.specs.Values.{lowest, highest}
use Rattle.fb_model.specs.Spans.{Span, joined}
use Rattle.fb_model.specs.Certificates.{is_boolean}
use Rattle.fb_model.specs.FinderRanges.{widened}
use Rattle.fb_find_ranges.specs.Lines.{Line, Lined, Tabled, tabled, asked_in, stepped, next_line, next_lined, next_round, next_number}
use Rattle.fb_find_ranges.specs.Sameness.{same_span, same_lines, same_all}

-- ---- one end

-- 1 where an end is not its type's
abbrev pub away : ℤ → ℤ → ℕ
away limit x = if int_eq limit x then 0 else 1

-- there is never more to do than before, and in late rounds less where something is not the same
pub record Falls (far same : Bool) (m k : ℕ) : Type 0 where
  pub less : m ≤ k
  pub moves : far ≡ true → same ≡ false → m < k

at_limit : (limit x : ℤ) → limit ≡ x → away limit x ≡ 0
at_limit limit x e = rw ((Decides-int_eq limit x).1 e) refl

few : (limit x : ℤ) → away limit x ≤ 1
few limit x = by (int_eq limit x) where
  by : (b : Bool) → ◌≤◌ (if b then 0 else 1) 1
  by true = omega arith
  by false = omega arith

end_falls : (limit old new : ℤ) (far : Bool) → (limit ≡ old → new ≡ old) → (far ≡ true → (new ≡ old) ⊎ (new ≡ limit)) → Falls far (int_eq old new) (away limit new) (away limit old)
end_falls limit old new far stays moves = by (int_eq limit old) refl where
  there : (b : Bool) → int_eq limit old ≡ b → away limit old ≡ (if b then 0 else 1)
  there b e = ap (λ c. if c then 0 else 1) e

  unlike : new ≡ old → int_eq old new ≡ false → ⊥
  unlike e d = let t : int_eq old new ≡ true = (Decides-int_eq old new).1 (sym e) in let z : ⊥ = cc in z

  by : (b : Bool) → int_eq limit old ≡ b → Falls far (int_eq old new) (away limit new) (away limit old)
  by true e =
      let same : new ≡ old = stays ((Decides-int_eq limit old).0 e) in
      let m : away limit new ≡ away limit old = ap (away limit) same in
      record { less = omega (arith, m); moves = λ f d. absurd (unlike same d) }
  by false e =
      let one : away limit old ≡ 1 = there false e in
      record {
        less = omega (arith, one, few limit new);
        moves = λ f d. elim (moves f) [ inl same ↦ absurd (unlike same d) | inr at ↦ omega (arith, one, at_limit limit new (sym at)) ];
      }

low_falls : (least old r : ℤ) (grows far : Bool) → (let new = int_min old (if grows then (if far then least else int_max least r) else old) in Falls far (int_eq old new) (away least new) (away least old))
low_falls least old r false far = end_falls least old (int_min old old) far (λ e. omega (arith, ints, clamps)) (λ f. inl (omega (arith, ints, clamps)))
low_falls least old r true false = end_falls least old (int_min old (int_max least r)) false (λ e. omega (arith, ints, clamps, e)) (λ f. absurd (let z : ⊥ = cc in z))
low_falls least old r true true = end_falls least old (int_min old least) true (λ e. omega (arith, ints, clamps, e)) (λ f. either least old)
  where
    either : (a b : ℤ) → (int_min b a ≡ b) ⊎ (int_min b a ≡ a)
    either a b = by (int_lt a b) refl where
      by : (c : Bool) → int_lt a b ≡ c → (int_min b a ≡ b) ⊎ (int_min b a ≡ a)
      by true e = inr (grind (arith, ints, clamps))
      by false e = inl (grind (arith, ints, clamps))

high_falls : (most old r : ℤ) (grows far : Bool) → (let new = int_max old (if grows then (if far then most else int_min most r) else old) in Falls far (int_eq old new) (away most new) (away most old))
high_falls most old r false far = end_falls most old (int_max old old) far (λ e. omega (arith, ints, clamps)) (λ f. inl (omega (arith, ints, clamps)))
high_falls most old r true false = end_falls most old (int_max old (int_min most r)) false (λ e. omega (arith, ints, clamps, e)) (λ f. absurd (let z : ⊥ = cc in z))
high_falls most old r true true = end_falls most old (int_max old most) true (λ e. omega (arith, ints, clamps, e)) (λ f. either most old)
  where
    either : (a b : ℤ) → (int_max b a ≡ b) ⊎ (int_max b a ≡ a)
    either a b = by (int_lt a b) refl where
      by : (c : Bool) → int_lt a b ≡ c → (int_max b a ≡ b) ⊎ (int_max b a ≡ a)
      by true e = inl (grind (arith, ints, clamps))
      by false e = inr (grind (arith, ints, clamps))

-- ---- two of them

both_fall : (far a b : Bool) (m k x y : ℕ) → Falls far a m k → Falls far b x y → Falls far (a && b) (m + x) (k + y)
both_fall far true b m k x y s t = record { less = omega (arith, s.less, t.less); moves = λ f d. omega (arith, s.less, t.moves f d) }
both_fall far false b m k x y s t = record { less = omega (arith, s.less, t.less); moves = λ f d. omega (arith, s.moves f refl, t.less) }

same_here : (r : Span) → same_span r r ≡ true
same_here r = rw ((Decides-int_eq r.low r.low).1 refl, (Decides-int_eq r.high r.high).1 refl) refl

-- ---- rows

abbrev pub open_ends : ElemType → Span → ℕ
open_ends a r = away (lowest a) r.low + away (highest a) r.high

span_falls : (n : ℕ) (a : ElemType) (old r : Span) → Falls (nat_lt 64 n) (same_span old (stepped n a old r)) (open_ends a (stepped n a old r)) (open_ends a old)
span_falls n a old r = by (is_boolean a) where
  wide : Falls (nat_lt 64 n) (same_span old (joined old (widened n a old r))) (open_ends a (joined old (widened n a old r))) (open_ends a old)
  wide =
      both_fall (nat_lt 64 n) _ _ _ _ _ _
      (low_falls (lowest a) old.low r.low (int_lt r.low old.low) (nat_lt 64 n)) (high_falls (highest a) old.high r.high (int_lt old.high r.high) (nat_lt 64 n))

  by : (b : Bool) → (let new = (if b then old else joined old (widened n a old r)) in Falls (nat_lt 64 n) (same_span old new) (open_ends a new) (open_ends a old))
  by true = record { less = omega arith; moves = λ f d. absurd (let t = same_here old in let z : ⊥ = cc in z) }
  by false = wide

-- ---- all rows

abbrev pub open_lines : List Line → ℕ
open_lines [] = 0
open_lines (l ∷ ls) = open_ends l.type l.range + open_lines ls

abbrev pub open_in : List Lined → ℕ
open_in [] = 0
open_in (s ∷ ss) = open_lines s.lines + open_in ss

lines_fall : (n : ℕ) (ts : List Tabled) (t : Tabled) (ls : List Line) → Falls (nat_lt 64 n) (same_lines ls (map (next_line n ts t) ls)) (open_lines (map (next_line n ts t) ls)) (open_lines ls)
lines_fall n ts t [] = record { less = omega arith; moves = λ f d. absurd (let z : ⊥ = cc in z) }
lines_fall n ts t (l ∷ ls) =
    let r = asked_in ts t l.name in
    both_fall (nat_lt 64 n) (same_span l.range (stepped n l.type l.range r)) (same_lines ls (map (next_line n ts t) ls)) (open_ends l.type (stepped n l.type l.range r)) (open_ends l.type l.range) (open_lines (map (next_line n ts t) ls)) (open_lines ls)
    (span_falls n l.type l.range r) (lines_fall n ts t ls)

all_fall : (n : ℕ) (ts : List Tabled) (xs : List Lined) → Falls (nat_lt 64 n) (same_all xs (map (next_lined n ts) (map tabled xs))) (open_in (map (next_lined n ts) (map tabled xs))) (open_in xs)
all_fall n ts [] = record { less = omega arith; moves = λ f d. absurd (let z : ⊥ = cc in z) }
all_fall n ts (x ∷ xs) =
    both_fall (nat_lt 64 n) (same_lines x.lines (map (next_line n ts (tabled x)) x.lines)) (same_all xs (map (next_lined n ts) (map tabled xs))) (open_lines (map (next_line n ts (tabled x)) x.lines)) (open_lines x.lines) (open_in (map (next_lined n ts) (map tabled xs))) (open_in xs)
    (lines_fall n ts (tabled x) x.lines) (all_fall n ts xs)

pub round_falls : (n : ℕ) (xs : List Lined) → Falls (nat_lt 64 n) (same_all xs (next_round n xs)) (open_in (next_round n xs)) (open_in xs)
round_falls n xs = all_fall n (map tabled xs) xs

-- so the rounds of the code come to an end
pub ends_by : (n m : ℕ) (xs us : List Lined) → us ≡ next_round n xs → same_all xs us ≡ false → m ≡ next_number n → 65 - m + open_in us < 65 - n + open_in xs
ends_by n m xs us is other number = by (nat_le n 64) refl number where
  fall : Falls (nat_lt 64 n) (same_all xs us) (open_in us) (open_in xs)
  fall = subst (λ ys. Falls (nat_lt 64 n) (same_all xs ys) (open_in ys) (open_in xs)) (sym is) (round_falls n xs)

  by : (b : Bool) → nat_le n 64 ≡ b → m ≡ (if b then n + 1 else n) → 65 - m + open_in us < 65 - n + open_in xs
  by true e s = let l : n ≤ 64 = grind (arith, nat_tests) in omega (arith, l, s, fall.less)
  by false e s = let l : nat_lt 64 n ≡ true = grind (arith, nat_tests) in omega (arith, s, fall.moves l other)
