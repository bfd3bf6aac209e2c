use Rattle.std.proofs.Common.{◌+◌, ◌*◌}
use denote.Param.Weighed.{most}
use Rattle.st_types.proofs.term.TypedExpr.TheLaws.{the_size as expr_size}
use Rattle.st_types.proofs.term.TypedLink.TheLaws.{the_size as link_size}
use Rattle.fbr_faults.proofs.expression.+finding.Given as goal

abbrev pub decreases-expression_fault : goal.decreases-expression_fault
decreases-expression_fault l = 2 * expr_size l.expr.now

abbrev pub decreases-links_fault : goal.decreases-links_fault
decreases-links_fault l = 2 * most link_size l.links.now + 1
