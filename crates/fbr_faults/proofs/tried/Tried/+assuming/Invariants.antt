use Rattle.std.proofs.Common.{◌+◌, ◌*◌, max}
use denote.Param.Weighed.{most}
use Rattle.st_types.proofs.term.TypedExpr.TheLaws.{the_size as expr_size}
use Rattle.st_types.proofs.term.TypedLink.TheLaws.{the_size as link_size}
use Rattle.fbr_faults.proofs.tried.Tried.+assuming.Given as goal

abbrev pub decreases-assume : goal.decreases-assume
decreases-assume l = 2 * expr_size l.condition.now

abbrev pub decreases-assume_chain : goal.decreases-assume_chain
decreases-assume_chain l = 2 * max (expr_size l.first.now) (most link_size l.links.now) + 1
