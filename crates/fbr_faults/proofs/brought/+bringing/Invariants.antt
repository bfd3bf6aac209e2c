use Rattle.std.proofs.Common.{◌+◌, ◌*◌, max}
use denote.Param.Weighed.{most}
use Rattle.st_types.proofs.command.TypedStmt.TheLaws.{the_size as stmt_size}
use Rattle.st_types.proofs.command.TypedBranch.TheLaws.{the_size as branch_size}
use Rattle.st_types.proofs.command.TypedArm.TheLaws.{the_size as arm_size}
use Rattle.fbr_faults.proofs.brought.+bringing.Given as goal

abbrev pub decreases-brought_by_list : goal.decreases-brought_by_list
decreases-brought_by_list l = 5 * most stmt_size l.list.now + 1

abbrev pub decreases-brought_by_one : goal.decreases-brought_by_one
decreases-brought_by_one l = 5 * stmt_size l.statement.now

abbrev pub decreases-brought_by_branches : goal.decreases-brought_by_branches
decreases-brought_by_branches l = 5 * max (most branch_size l.branches.now) (most stmt_size l.other.now) + 4

abbrev pub decreases-brought_by_arms : goal.decreases-brought_by_arms
decreases-brought_by_arms l = 5 * max (most arm_size l.arms.now) (most stmt_size l.other.now) + 4
