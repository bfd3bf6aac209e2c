use Rattle.std.proofs.Common.{◌-◌}
use Rattle.fb_lex.proofs.span.+span_at.Given as goal

abbrev pub decreases-span_at : goal.decreases-span_at
decreases-span_at l = 5 - l.least
