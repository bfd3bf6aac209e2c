use Rattle.std.proofs.Common.{◌+◌, ◌*◌, max}
use denote.Param.Weighed.{most}
use Rattle.st_types.proofs.command.TypedStmt.TheLaws.{the_size as stmt_size}
use Rattle.st_types.proofs.command.TypedBranch.TheLaws.{the_size as branch_size}
use Rattle.st_types.proofs.command.TypedArm.TheLaws.{the_size as arm_size}
use Rattle.fbr_faults.proofs.list.+walking.Given as goal

abbrev pub decreases-body_fault : goal.decreases-body_fault
decreases-body_fault l = 5 * most stmt_size l.list.now + 2

abbrev pub decreases-list_fault : goal.decreases-list_fault
decreases-list_fault l = 5 * most stmt_size l.list.now + 1

abbrev pub decreases-one_fault : goal.decreases-one_fault
decreases-one_fault l = 5 * stmt_size l.statement.now

abbrev pub decreases-branches_fault : goal.decreases-branches_fault
decreases-branches_fault l = 5 * max (most branch_size l.branches.now) (most stmt_size l.other.now) + 4

abbrev pub decreases-arms_fault : goal.decreases-arms_fault
decreases-arms_fault l = 5 * max (most arm_size l.arms.now) (most stmt_size l.other.now) + 4

abbrev pub decreases-for_fault : goal.decreases-for_fault
decreases-for_fault l = 5 * most stmt_size l.body.now + 4
