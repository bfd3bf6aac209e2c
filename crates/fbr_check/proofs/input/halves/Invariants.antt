use Rattle.std.proofs.Common.{◌≡◌, true, take, drop}
use Rattle.fbr_check.specs.Halves.{divide}
use Rattle.fbr_check.proofs.Divide.{with_front}
use Rattle.fbr_check.proofs.input.halves.Given as goal

-- the bytes so far go to the first text
abbrev pub invariant-loop-i : goal.invariant-loop-i
invariant-loop-i l = divide true l.text ≡ with_front (take l.i l.text) (divide l.is_start (drop l.i l.text))
