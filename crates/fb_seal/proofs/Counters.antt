-- Counters are taken once.
use Rattle.std.proofs.Common.{arith, ◌≡◌, inl, inr, ℕ, ◌+◌, ◌<◌, ◌≤◌, true, false, ◌&&◌, not, List, [], ◌∷◌, refl, sym, ◌∙◌, ap}
use Rattle.std.specs.Prelude.{◌==◌, nat_lt}
use Rattle.std.specs.List.{AllByRecursion}
use Rattle.std.proofs.lemmas.Bool.{cases_Bool, and_parts, not-true, eqb-true, ne_eqb, lt-ltb, cond-true, cond-false}
use Rattle.fb_seal.specs.Window.{is_beside, is_fresh, taken_of, times}

-- a fresh counter is none of those that were taken
not_there : (taken : List ℕ) (counter : ℕ) → is_fresh taken counter ≡ true → times counter taken ≡ 0
not_there [] counter h = refl
not_there (first ∷ taken) counter h =
    let parts = and_parts (is_beside first counter) (is_fresh taken counter) h in
    let here = and_parts (nat_lt first (counter + 64)) (not (first == counter)) parts.0 in
    cond-false (first == counter) (1 + times counter taken) (times counter taken) (not-true (first == counter) here.1) ∙ not_there taken counter parts.1

-- what was taken is not taken again
pub never_again : (before offers : List ℕ) (counter : ℕ) → 0 < times counter before → times counter (taken_of before offers) ≡ 0
never_again before [] counter lt = refl
never_again before (c ∷ offers) counter lt = elim (cases_Bool (is_fresh before c)) [
  | inl fresh ↦
      ap (times counter) (cond-true (is_fresh before c) (c ∷ taken_of (c ∷ before) offers) (taken_of before offers) fresh)
      ∙ elim (cases_Bool (c == counter)) [
        | inl same ↦
            let none : times counter before ≡ 0 = ap (λ (k : ℕ). times k before) (sym (eqb-true c counter same)) ∙ not_there before c fresh in
            absurd (omega (arith, none, lt))
        | inr other ↦
            let kept : times counter (c ∷ before) ≡ times counter before = cond-false (c == counter) (1 + times counter before) (times counter before) other in
            cond-false (c == counter) (1 + times counter (taken_of (c ∷ before) offers)) (times counter (taken_of (c ∷ before) offers)) other
            ∙ never_again (c ∷ before) offers counter (omega (arith, kept, lt))
      ]
  | inr old ↦
      ap (times counter) (cond-false (is_fresh before c) (c ∷ taken_of (c ∷ before) offers) (taken_of before offers) old) ∙ never_again before offers counter lt
]

-- each is taken once at most
pub once : (before offers : List ℕ) (counter : ℕ) → times counter (taken_of before offers) ≤ 1
once before [] counter = omega arith
once before (c ∷ offers) counter = elim (cases_Bool (is_fresh before c)) [
  | inl fresh ↦
      let is = ap (times counter) (cond-true (is_fresh before c) (c ∷ taken_of (c ∷ before) offers) (taken_of before offers) fresh) in
      elim (cases_Bool (c == counter)) [
        | inl same ↦
            let there : times counter (c ∷ before) ≡ 1 + times counter before = cond-true (c == counter) (1 + times counter before) (times counter before) same in
            let here = cond-true (c == counter) (1 + times counter (taken_of (c ∷ before) offers)) (times counter (taken_of (c ∷ before) offers)) same in
            omega (arith, is, here, never_again (c ∷ before) offers counter (omega (arith, there)))
        | inr other ↦
            let here = cond-false (c == counter) (1 + times counter (taken_of (c ∷ before) offers)) (times counter (taken_of (c ∷ before) offers)) other in
            omega (arith, is, here, once (c ∷ before) offers counter)
      ]
  | inr old ↦
      let is = ap (times counter) (cond-false (is_fresh before c) (c ∷ taken_of (c ∷ before) offers) (taken_of before offers) old) in
      omega (arith, is, once before offers counter)
]

-- a counter above all that were taken is fresh
pub above_all : (before : List ℕ) (counter : ℕ) → AllByRecursion (λ taken. taken < counter) before → is_fresh before counter ≡ true
above_all [] counter h = refl
above_all (first ∷ before) counter h =
    let near : nat_lt first (counter + 64) ≡ true = lt-ltb first (counter + 64) (omega (arith, h.0)) in
    let other : (first == counter) ≡ false = ne_eqb first counter (λ e. omega (arith, e, h.0)) in
    ap (λ b. (b && not (first == counter)) && is_fresh before counter) near ∙ ap (λ b. not b && is_fresh before counter) other ∙ above_all before counter h.1
