-- Moments that a clock gives.
use Rattle.std.proofs.Common.{arith, ◌≡◌, ℕ, zero, suc, ◌<◌, ◌≤◌, Bool, true, false, cond, List, [], ◌∷◌, map, length, refl, sym, ◌∙◌, ap, subst, get_or}
use Rattle.std.specs.Prelude.{◌==◌}
use Rattle.fb_pace.specs.declared.buckets.Paced.{Paced}
use Rattle.fb_pace.specs.Rates.{AreInOrder}
use Rattle.fb_pace.specs.Buckets.{Ask, after_ask, answers_to_all, moments_of}
use Rattle.fb_pace.specs.Pacing.{AskedAt, AsksAll, Pacing}

-- when they asked
abbrev times : (p q : Pacing) (questions : List (ℕ × Bool)) → AsksAll p questions q → List Ask
times p q [] h = []
times p q (x ∷ xs) h = record { number = x.0; moment = h.1.0 } ∷ times h.0 q xs h.2

numbers : (p q : Pacing) (questions : List (ℕ × Bool)) (h : AsksAll p questions q) → map (λ (ask : Ask). ask.number) (times p q questions h) ≡ map (λ (x : ℕ × Bool). x.0) questions
numbers p q [] h = refl
numbers p q (x ∷ xs) h = ap (λ (ns : List ℕ). x.0 ∷ ns) (numbers h.0 q xs h.2)

answered : (p q : Pacing) (questions : List (ℕ × Bool)) (h : AsksAll p questions q) → answers_to_all p.peers (times p q questions h) ≡ map (λ (x : ℕ × Bool). x.1) questions
answered p q [] h = refl
answered p q (x ∷ xs) h =
    let peers : h.0.peers ≡ after_ask x.0 h.1.0 p.peers = ap (λ (b : Pacing). b.peers) h.1.3 in
    ap (λ (b : Bool). b ∷ answers_to_all (after_ask x.0 h.1.0 p.peers) (times h.0 q xs h.2)) (sym h.1.2)
    ∙ ap (λ (ps : List Paced). x.1 ∷ answers_to_all ps (times h.0 q xs h.2)) (sym peers) ∙ ap (λ (bs : List Bool). x.1 ∷ bs) (answered h.0 q xs h.2)

-- from a moment on, none is before the last
abbrev Rising : ℕ → List ℕ → Type 0
Rising from [] = Unit {0}
Rising from (t ∷ ts) = (from ≤ t) × Rising t ts

sooner : (from later : ℕ) (ts : List ℕ) → from ≤ later → Rising later ts → Rising from ts
sooner from later [] le h = tt
sooner from later (t ∷ ts) le h = (omega (arith, le, h.0), h.1)

rising : (number : ℕ) (p q : Pacing) (questions : List (ℕ × Bool)) (h : AsksAll p questions q) → Rising p.last (moments_of number (times p q questions h))
rising number p q [] h = tt
rising number p q (x ∷ xs) h = choose (x.0 == number) (subst (λ (n : ℕ). Rising n (moments_of number (times h.0 q xs h.2))) (ap (λ (b : Pacing). b.last) h.1.3) (rising number h.0 q xs h.2))
  where
    choose : (b : Bool) → Rising h.1.0 (moments_of number (times h.0 q xs h.2))
        → Rising p.last (cond b (h.1.0 ∷ moments_of number (times h.0 q xs h.2)) (moments_of number (times h.0 q xs h.2)))
    choose true rest = (h.1.1, rest)
    choose false rest = sooner p.last h.1.0 (moments_of number (times h.0 q xs h.2)) h.1.1 rest

at_least : (from : ℕ) (ts : List ℕ) (j : ℕ) → Rising from ts → j < length ts → from ≤ get_or ts j 0
at_least from [] j h lt = absurd (omega (arith, lt))
at_least from (t ∷ ts) zero h lt = h.0
at_least from (t ∷ ts) (suc j) h lt = let rest : t ≤ get_or ts j 0 = at_least t ts j h.1 (omega (arith, lt)) in omega (arith, h.0, rest)

in_order : (from : ℕ) (ts : List ℕ) → Rising from ts → AreInOrder ts
in_order from [] h i j le lt = absurd (omega (arith, lt))
in_order from (t ∷ ts) h zero zero le lt = omega arith
in_order from (t ∷ ts) h zero (suc j) le lt = at_least t ts j h.1 (omega (arith, lt))
in_order from (t ∷ ts) h (suc i) zero le lt = absurd (omega (arith, le))
in_order from (t ∷ ts) h (suc i) (suc j) le lt = in_order t ts h.1 i j (omega (arith, le)) (omega (arith, lt))

pub clocked : (p q : Pacing) (questions : List (ℕ × Bool)) → AsksAll p questions q → (asks : List Ask) × AskedAt p questions asks
clocked p q questions h = (
  times p q questions h,
  record {
    numbers = numbers p q questions h;
    answers = answered p q questions h;
    order = λ number. in_order p.last (moments_of number (times p q questions h)) (rising number p q questions h);
  },
)
