use Rattle.std.proofs.Common.{length}
use Rattle.fb_lex.specs.Lexing.{Gaps}
use Rattle.fb_lex.proofs.gap.behind_layout.Given as goal

abbrev pub invariant-loop-left : goal.invariant-loop-left
invariant-loop-left l = Gaps l.bytes l.left

abbrev pub decreases-loop-left : goal.decreases-loop-left
decreases-loop-left l = length l.left
