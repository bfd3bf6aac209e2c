use Rattle.std.proofs.Common.{◌≡◌, length}
use Rattle.fb_lex.specs.Scanning.{closes_at}
use Rattle.fb_lex.proofs.gap.closes_at.Given as goal

abbrev pub invariant-loop-rest : goal.invariant-loop-rest
invariant-loop-rest l = closes_at l.rest ≡ closes_at l.bytes

abbrev pub decreases-loop-rest : goal.decreases-loop-rest
decreases-loop-rest l = length l.rest
