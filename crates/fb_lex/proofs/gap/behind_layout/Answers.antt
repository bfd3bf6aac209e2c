use Rattle.std.proofs.Common.{sym, ◌∙◌}
use Rattle.fb_lex.specs.Lexing.{no_gap}
use Rattle.fb_lex.proofs.Steps.{layout_more}
use Rattle.fb_lex.proofs.gap.behind_layout.Goals as goal

pub loop-left-init : goal.loop-left-init
loop-left-init c = no_gap

pub loop-left-preserved : goal.loop-left-preserved
loop-left-preserved c = layout_more c.loop-left.left.now c.in-len1-up.len_at_least (sym c.is_layout.ensures ∙ c.if-is_layout.true) c.loop-left.invariant
