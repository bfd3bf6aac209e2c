-- Distances of numbers.
use Rattle.std.proofs.Common.{◌≡◌, ℕ, suc, ℤ, pos, negsuc, ◌+ℤ◌, ◌-ℤ◌, true, arith}
use Rattle.std.specs.Prelude.{int_lt}
use Rattle.std.proofs.lemmas.Int.{ints}

pub below : (low high d : ℤ) → d ≡ high -ℤ low → int_lt high low ≡ true → (n : ℕ) × (low ≡ high +ℤ pos (suc n))
below low high (pos n) e h = absurd (omega (arith, ints, e, h))
below low high (negsuc n) e h = (n, omega (arith, ints, e))
