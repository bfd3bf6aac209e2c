use Rattle.std.proofs.Common.{◌+◌, ◌*◌}
use denote.Param.Weighed.{most}
use Rattle.st_types.proofs.command.TypedStmt.TheLaws.{the_size as stmt_size}
use Rattle.st_types.proofs.command.TypedBranch.TheLaws.{the_size as branch_size}
use Rattle.st_types.proofs.command.TypedArm.TheLaws.{the_size as arm_size}
use Rattle.fb_find_candidate.proofs.number.+listing.Given as goal

abbrev pub decreases-add_list : goal.decreases-add_list
decreases-add_list l = 5 * most stmt_size l.list.now + 1

abbrev pub decreases-add_statement : goal.decreases-add_statement
decreases-add_statement l = 5 * stmt_size l.statement.now

abbrev pub decreases-add_branches : goal.decreases-add_branches
decreases-add_branches l = 5 * most branch_size l.list.now + 2

abbrev pub decreases-add_arms : goal.decreases-add_arms
decreases-add_arms l = 5 * most arm_size l.list.now + 2
