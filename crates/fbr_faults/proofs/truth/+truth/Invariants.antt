use Rattle.std.proofs.Common.{◌+◌, ◌*◌, max}
use denote.Param.Weighed.{most}
use Rattle.st_types.proofs.term.TypedExpr.TheLaws.{the_size as expr_size}
use Rattle.st_types.proofs.term.TypedLink.TheLaws.{the_size as link_size}
use Rattle.fbr_faults.proofs.truth.+truth.Given as goal

abbrev pub decreases-truth_of : goal.decreases-truth_of
decreases-truth_of l = 2 * expr_size l.expr.now

abbrev pub decreases-chain_truth : goal.decreases-chain_truth
decreases-chain_truth l = 2 * max (expr_size l.first.now) (most link_size l.links.now) + 1
