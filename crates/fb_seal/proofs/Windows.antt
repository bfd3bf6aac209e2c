-- A window after one more counter.
use Rattle.std.proofs.Common.{arith, ◌≡◌, ◌⊎◌, inl, inr, ℕ, ◌+◌, ◌-◌, ◌<◌, ◌≤◌, Bool, true, false, ◌&&◌, ◌||◌, not, refl, ◌∙◌, ap}
use Rattle.std.specs.Prelude.{◌==◌, nat_lt}
use Rattle.std.proofs.lemmas.Bool.{cases_eq, cases_lt, cases_order, or_cases, and_parts, eq-eqb, ne_eqb, ltb-true, lt-ltb, le-ltb}
use Rattle.fb_seal.specs.declared.window.Window.{Window}
use Rattle.fb_seal.specs.Window.{bit, takes, is_beside}
use Rattle.fb_seal.proofs.Masks.{all_set, marked, is_marked, not_marked}

-- the tests of a window: whether the counter is above the highest one, whether it is near, and whether its bit is 0; and of a counter that was taken:
-- whether the other one is near, and whether it is the same
both_take : (above near clear beside same above_old rest : Bool) → above ≡ true → beside ≡ true → same ≡ false → above_old ≡ true
    → above || (near && clear) ≡ (beside && not same) && (above_old || rest)
both_take above near clear beside same above_old rest a b s o = rw (a, b, s, o) refl

neither_takes : (above near clear beside same rest : Bool) → above ≡ false → clear ≡ false → beside ≡ true → same ≡ true
    → above || (near && clear) ≡ (beside && not same) && rest
neither_takes above true clear beside same rest a c b s = rw (a, c, b, s) refl
neither_takes above false clear beside same rest a c b s = rw (a, b, s) refl

-- between the highest counter of before and the new one
newly_between : (above near clear same above_old rest : Bool) → above ≡ false → same ≡ false → above_old ≡ true → (near ≡ true → clear ≡ true)
    → above || (near && clear) ≡ (near && not same) && (above_old || rest)
newly_between above true clear same above_old rest a s o h = rw (a, s, o, h refl) refl
newly_between above false clear same above_old rest a s o h = rw a refl

-- below the highest counter of before
as_before : (above near clear same above_old near_old clear_old : Bool) → above ≡ false → same ≡ false → above_old ≡ false
    → (near ≡ true → (near_old ≡ true) × (clear ≡ clear_old)) → above || (near && clear) ≡ (near && not same) && (above_old || (near_old && clear_old))
as_before above true clear same above_old near_old clear_old a s o h = rw (a, s, o, (h refl).0, (h refl).1) refl
as_before above false clear same above_old near_old clear_old a s o h = rw a refl

-- and where that stays
still_below : (above near clear beside same clear_old : Bool) → above ≡ false → same ≡ false → (near ≡ true → (beside ≡ true) × (clear ≡ clear_old))
    → above || (near && clear) ≡ (beside && not same) && (above || (near && clear_old))
still_below above true clear beside same clear_old a s h = rw (a, s, (h refl).0, (h refl).1) refl
still_below above false clear true same clear_old a s h = rw (a, s) refl
still_below above false clear false same clear_old a s h = rw a refl

-- a counter above the highest one was taken
pub after_above : (w : Window) (counter mask : ℕ) → w.highest < counter → bit mask 0 ≡ 1
    → ((i : ℕ) → 0 < i → i < counter - w.highest → i < 64 → bit mask i ≡ 0)
    → ((i : ℕ) → counter - w.highest ≤ i → i < 64 → bit mask i ≡ bit w.mask (i - (counter - w.highest)))
    → (other : ℕ) → takes (record { highest = counter; mask = mask }) other ≡ is_beside counter other && takes w other
after_above w counter mask lt first between kept other = elim (cases_order counter other) [
  | inl same ↦
      let zero : counter - other ≡ 0 = omega arith in
      neither_takes (nat_lt counter other) (nat_lt counter (other + 64)) (bit mask (counter - other) == 0) (nat_lt counter (other + 64)) (counter == other) (takes w other)
      (le-ltb counter other (omega arith)) (ap (λ (k : ℕ). bit mask k == 0) zero ∙ ap (λ (k : ℕ). k == 0) first) (lt-ltb counter (other + 64) (omega arith)) (eq-eqb counter other same)
  | inr apart ↦ elim apart [
    | inl less ↦
        both_take (nat_lt counter other) (nat_lt counter (other + 64)) (bit mask (counter - other) == 0) (nat_lt counter (other + 64)) (counter == other) (nat_lt w.highest other)
        (nat_lt w.highest (other + 64) && bit w.mask (w.highest - other) == 0)
        (lt-ltb counter other less) (lt-ltb counter (other + 64) (omega arith)) (ne_eqb counter other (λ e. omega arith)) (lt-ltb w.highest other (omega arith))
    | inr more ↦ lower more (cases_lt w.highest other)
  ]
]
  where
    lower : other < counter → (w.highest < other) ⊎ (other ≤ w.highest) → takes (record { highest = counter; mask = mask }) other ≡ is_beside counter other && takes w other
    lower less (inl up) =
        newly_between (nat_lt counter other) (nat_lt counter (other + 64)) (bit mask (counter - other) == 0) (counter == other) (nat_lt w.highest other)
        (nat_lt w.highest (other + 64) && bit w.mask (w.highest - other) == 0)
        (le-ltb counter other (omega arith)) (ne_eqb counter other (λ e. omega arith)) (lt-ltb w.highest other up)
        (λ (near : nat_lt counter (other + 64) ≡ true).
        let close = ltb-true counter (other + 64) near in
        ap (λ (k : ℕ). k == 0) (between (counter - other) (omega arith) (omega arith) (omega arith)))
    lower less (inr down) =
        as_before (nat_lt counter other) (nat_lt counter (other + 64)) (bit mask (counter - other) == 0) (counter == other) (nat_lt w.highest other)
        (nat_lt w.highest (other + 64)) (bit w.mask (w.highest - other) == 0)
        (le-ltb counter other (omega arith)) (ne_eqb counter other (λ e. omega arith)) (le-ltb w.highest other down)
        (λ (near : nat_lt counter (other + 64) ≡ true).
        let close = ltb-true counter (other + 64) near in
        let place : counter - other - (counter - w.highest) ≡ w.highest - other = omega arith in (
          lt-ltb w.highest (other + 64) (omega arith),
          ap (λ (k : ℕ). k == 0) (kept (counter - other) (omega arith) (omega arith) ∙ ap (bit w.mask) place),
        ))

-- where a counter below the highest one may be taken, it is near
near_below : (w : Window) (counter : ℕ) → counter ≤ w.highest → takes w counter ≡ true → w.highest < counter + 64
near_below w counter le h = elim (or_cases (nat_lt w.highest counter) (nat_lt w.highest (counter + 64) && bit w.mask (w.highest - counter) == 0) h) [
  | inl up ↦ absurd (omega (arith, ltb-true w.highest counter up, le))
  | inr rest ↦ ltb-true w.highest (counter + 64) (and_parts (nat_lt w.highest (counter + 64)) (bit w.mask (w.highest - counter) == 0) rest).0
]

-- one below it was taken
pub after_below : (w : Window) (counter : ℕ) → counter ≤ w.highest → takes w counter ≡ true
    → (other : ℕ) → takes (record { highest = w.highest; mask = marked w.mask (w.highest - counter) }) other ≡ is_beside counter other && takes w other
after_below w counter le h other = choose (cases_lt w.highest other) (cases_eq counter other)
  where
    choose : (w.highest < other) ⊎ (other ≤ w.highest) → (counter ≡ other) ⊎ (counter ≡ other → ⊥)
        → takes (record { highest = w.highest; mask = marked w.mask (w.highest - counter) }) other ≡ is_beside counter other && takes w other
    choose (inl up) eq =
        both_take (nat_lt w.highest other) (nat_lt w.highest (other + 64)) (bit (marked w.mask (w.highest - counter)) (w.highest - other) == 0) (nat_lt counter (other + 64))
        (counter == other) (nat_lt w.highest other) (nat_lt w.highest (other + 64) && bit w.mask (w.highest - other) == 0)
        (lt-ltb w.highest other up) (lt-ltb counter (other + 64) (omega arith)) (ne_eqb counter other (λ e. omega arith)) (lt-ltb w.highest other up)
    choose (inr down) (inl same) =
        let place : w.highest - other ≡ w.highest - counter = omega arith in
        let near = near_below w counter le h in
        neither_takes (nat_lt w.highest other) (nat_lt w.highest (other + 64)) (bit (marked w.mask (w.highest - counter)) (w.highest - other) == 0) (nat_lt counter (other + 64))
        (counter == other) (takes w other)
        (le-ltb w.highest other down)
        (ap (λ (k : ℕ). bit (marked w.mask (w.highest - counter)) k == 0) place ∙ ap (λ (k : ℕ). k == 0) (is_marked w.mask (w.highest - counter) (omega arith)))
        (lt-ltb counter (other + 64) (omega arith)) (eq-eqb counter other same)
    choose (inr down) (inr ne) =
        let close = near_below w counter le h in
        still_below (nat_lt w.highest other) (nat_lt w.highest (other + 64)) (bit (marked w.mask (w.highest - counter)) (w.highest - other) == 0) (nat_lt counter (other + 64))
        (counter == other) (bit w.mask (w.highest - other) == 0)
        (le-ltb w.highest other down) (ne_eqb counter other ne)
        (λ (near : nat_lt w.highest (other + 64) ≡ true).
        let there = ltb-true w.highest (other + 64) near in (
          lt-ltb counter (other + 64) (omega arith),
          ap (λ (k : ℕ). k == 0) (not_marked w.mask (w.highest - counter) (w.highest - other) (omega arith) (omega arith) (λ e. ne (omega arith))),
        ))

only_above : (above near clear : Bool) → (above ≡ false → near ≡ true → clear ≡ false) → above || (near && clear) ≡ above
only_above true near clear h = refl
only_above false true clear h = h refl refl
only_above false false clear h = refl

-- a window above a counter
pub all_above : (counter other : ℕ) → takes (record { highest = counter; mask = 18446744073709551615 }) other ≡ nat_lt counter other
all_above counter other =
    only_above (nat_lt counter other) (nat_lt counter (other + 64)) (bit 18446744073709551615 (counter - other) == 0)
    (λ (below : nat_lt counter other ≡ false) (near : nat_lt counter (other + 64) ≡ true).
    let close = ltb-true counter (other + 64) near in
    ap (λ (k : ℕ). k == 0) (all_set (counter - other) (omega arith)))
