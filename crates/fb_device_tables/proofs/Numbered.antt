-- Numbers of what stands behind others.
use Rattle.std.proofs.Common.{ℕ, ◌+◌, Option, None, Some}

-- a number among what is left, as one among all
abbrev pub moved_by : ℕ → Option ℕ → Option ℕ
moved_by n None = None
moved_by n (Some k) = Some (n + k)
