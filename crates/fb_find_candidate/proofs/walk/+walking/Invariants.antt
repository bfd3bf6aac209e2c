use Rattle.std.proofs.Common.{◌+◌, ◌*◌, max}
use denote.Param.Weighed.{most}
use Rattle.st_types.proofs.command.TypedStmt.TheLaws.{the_size as stmt_size}
use Rattle.st_types.proofs.command.TypedBranch.TheLaws.{the_size as branch_size}
use Rattle.st_types.proofs.command.TypedArm.TheLaws.{the_size as arm_size}
use Rattle.fb_find_candidate.proofs.walk.+walking.Given as goal

abbrev pub decreases-walk : goal.decreases-walk
decreases-walk l = 5 * most stmt_size l.list.now + 1

abbrev pub decreases-walk_one : goal.decreases-walk_one
decreases-walk_one l = 5 * stmt_size l.statement.now

abbrev pub decreases-walk_last : goal.decreases-walk_last
decreases-walk_last l = 5 * most stmt_size l.list.now + 2

abbrev pub decreases-walk_branches : goal.decreases-walk_branches
decreases-walk_branches l = 5 * max (most branch_size l.branches.now) (most stmt_size l.other.now) + 4

abbrev pub decreases-walk_arms : goal.decreases-walk_arms
decreases-walk_arms l = 5 * max (most arm_size l.selection.arms.now) (most stmt_size l.selection.other.now) + 4

abbrev pub decreases-walk_for : goal.decreases-walk_for
decreases-walk_for l = 5 * most stmt_size l.body.now + 4
