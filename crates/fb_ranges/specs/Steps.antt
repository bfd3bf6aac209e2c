-- Numbers of steps as the code tells them apart.
use Rattle.std.specs.Prelude.{ℕ, min}

-- all numbers above 1,000,000,000,000 are one
abbrev pub counted : ℕ → ℕ
counted n = min n 1000000000001
