use Rattle.std.proofs.Common.{sym, ◌∙◌}
use Rattle.fb_lex.proofs.Steps.{closes_short}
use Rattle.fb_lex.proofs.gap.closes_at.Goals as goal

pub returns : goal.returns
returns c = sym c.loop-rest.invariant ∙ closes_short c.loop-rest.rest.now c.in_default.len_below
