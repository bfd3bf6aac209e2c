use Rattle.std.proofs.Common.{◌+◌, ◌*◌, drop, map}
use denote.Param.Weighed.{most}
use Rattle.fb_tree.specs.Algorithms.{stmt_of, branch_of, arm_of}
use Rattle.st_types.specs.Views.{entries}
use Rattle.st_types.specs.CommandViews.{busy_of, command_of, choice_of, case_of}
use Rattle.st_types.proofs.Loops.{CommandsLeft, ChoicesLeft, CasesLeft}
use Rattle.fb_tree.proofs.statement.Stmt.TheLaws.{the_size as stmt_size}
use Rattle.fb_tree.proofs.statement.Branch.TheLaws.{the_size as branch_size}
use Rattle.fb_tree.proofs.statement.Arm.TheLaws.{the_size as arm_size}
use Rattle.st_types.proofs.statement.+commanding.Given as goal

abbrev pub decreases-command : goal.decreases-command
decreases-command l = 4 * stmt_size l.stmt.now

abbrev pub decreases-commands : goal.decreases-commands
decreases-commands l = 4 * most stmt_size l.list.now + 1

abbrev pub decreases-loop_body : goal.decreases-loop_body
decreases-loop_body l = 4 * most stmt_size l.body.now + 2

abbrev pub decreases-choice : goal.decreases-choice
decreases-choice l = 4 * branch_size l.branch.now

abbrev pub decreases-choices : goal.decreases-choices
decreases-choices l = 4 * most branch_size l.list.now + 1

abbrev pub decreases-case : goal.decreases-case
decreases-case l = 4 * arm_size l.arm.now

abbrev pub decreases-cases : goal.decreases-cases
decreases-cases l = 4 * most arm_size l.list.now + 1

abbrev pub invariant-commands-loop-stmt : goal.invariant-commands-loop-stmt
invariant-commands-loop-stmt l = CommandsLeft (entries l.scope) (busy_of l.busy) (map stmt_of l.list) (map command_of l.done.items) (map stmt_of (drop l.stmt-index l.list))

abbrev pub invariant-choices-loop-branch : goal.invariant-choices-loop-branch
invariant-choices-loop-branch l = ChoicesLeft (entries l.scope) (busy_of l.busy) (map branch_of l.list) (map choice_of l.done.items) (map branch_of (drop l.branch-index l.list))

abbrev pub invariant-cases-loop-arm : goal.invariant-cases-loop-arm
invariant-cases-loop-arm l = CasesLeft (entries l.scope) (busy_of l.busy) l.of (map arm_of l.list) (map case_of l.done.items) (map arm_of (drop l.arm-index l.list))
