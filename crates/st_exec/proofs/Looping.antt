-- The numbers that a loop takes.
use Rattle.std.proofs.Common.{◌≡◌, ℕ, zero, suc, ◌*◌, ◌/◌, ◌<◌, ◌≤◌, ℤ, pos, negsuc, ◌+ℤ◌, ◌-ℤ◌, ◌*ℤ◌, ◌≤ℤ◌, unsigned_abs, arith, ◌⊎◌, inl, inr}
use Rattle.std.proofs.Math.Nat.{mul-le-mul_right}
use Rattle.std.proofs.lemmas.Int.{ints, by_lt_z}
use Rattle.fb_model.specs.Language.{iteration_count}
use Rattle.fb_words.proofs.Types.{lt_true, lt_false}

up_to : (d n i : ℕ) → i < suc (d / suc n) → i * suc n ≤ d
up_to d n i h = let le : i ≤ d / suc n = omega arith in omega (arith, mul-le-mul_right (suc n) le)

pub record Between (a b v : ℤ) : Type 0 where
  pub between : ((a ≤ℤ v) × (v ≤ℤ b)) ⊎ ((b ≤ℤ v) × (v ≤ℤ a))

distance : (a b : ℤ) → a ≤ℤ b → pos (unsigned_abs (b -ℤ a)) ≡ b -ℤ a
distance a b h = omega (arith, ints)

pub taken_between : (a b k : ℤ) (i : ℕ) → i < iteration_count a b k → Between a b (a +ℤ pos i *ℤ k)
taken_between a b (pos zero) i h = absurd (omega arith)
taken_between a b (pos (suc n)) i h =
    by_lt_z b a
    (λ lt. absurd (let e = rw (lt_true b a lt) at h in omega arith))
    (λ le.
    let e = rw (lt_false b a le) at h in
    let u = up_to (unsigned_abs (b -ℤ a)) n i e in
    let d = distance a b le in
    record { between = inl (omega (arith, ints), omega (arith, ints)) })
taken_between a b (negsuc n) i h =
    by_lt_z a b
    (λ lt. absurd (let e = rw (lt_true a b lt) at h in omega arith))
    (λ le.
    let e = rw (lt_false a b le) at h in
    let u = up_to (unsigned_abs (b -ℤ a)) n i e in
    let d : pos (unsigned_abs (b -ℤ a)) ≡ a -ℤ b = omega (arith, ints) in
    record { between = inr (omega (arith, ints), omega (arith, ints)) })
