use Rattle.std.proofs.Common.{◌+◌, ◌*◌}
use denote.Param.Weighed.{most}
use Rattle.st_types.proofs.term.TypedExpr.TheLaws.{the_size as expr_size}
use Rattle.st_types.proofs.term.TypedLink.TheLaws.{the_size as link_size}
use Rattle.fb_find_candidate.proofs.value.+valuing.Given as goal

abbrev pub decreases-value : goal.decreases-value
decreases-value l = 2 * expr_size l.expr.now

abbrev pub decreases-value_behind : goal.decreases-value_behind
decreases-value_behind l = 2 * most link_size l.links.now + 1
