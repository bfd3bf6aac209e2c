use Rattle.std.proofs.Common.{◌≡◌, length}
use Rattle.fb_lex.specs.Scanning.{parts_at}
use Rattle.fb_lex.proofs.word.behind_word.Given as goal

abbrev pub invariant-loop-rest : goal.invariant-loop-rest
invariant-loop-rest l = (parts_at l.rest).1 ≡ (parts_at l.bytes).1

abbrev pub decreases-loop-rest : goal.decreases-loop-rest
decreases-loop-rest l = length l.rest
