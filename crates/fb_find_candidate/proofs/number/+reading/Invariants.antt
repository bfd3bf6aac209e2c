use Rattle.std.proofs.Common.{◌+◌, ◌*◌}
use denote.Param.Weighed.{most}
use Rattle.st_types.proofs.term.TypedExpr.TheLaws.{the_size as expr_size}
use Rattle.st_types.proofs.term.TypedLink.TheLaws.{the_size as link_size}
use Rattle.fb_find_candidate.proofs.number.+reading.Given as goal

abbrev pub decreases-add_term : goal.decreases-add_term
decreases-add_term l = 2 * expr_size l.expr.now

abbrev pub decreases-add_links : goal.decreases-add_links
decreases-add_links l = 2 * most link_size l.links.now + 1
