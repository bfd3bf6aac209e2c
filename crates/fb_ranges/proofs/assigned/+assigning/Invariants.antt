use Rattle.std.proofs.Common.{◌≡◌, ◌+◌, ◌*◌, ◌++◌, drop}
use denote.Param.Weighed.{most}
use Rattle.fb_model.specs.Clear.{assigned, assigned_choices, assigned_cases}
use Rattle.st_types.specs.CommandViews.{commands_of, choices_of, cases_of}
use Rattle.st_types.proofs.command.TypedStmt.TheLaws.{the_size as stmt_size}
use Rattle.st_types.proofs.command.TypedBranch.TheLaws.{the_size as branch_size}
use Rattle.st_types.proofs.command.TypedArm.TheLaws.{the_size as arm_size}
use Rattle.fb_ranges.proofs.assigned.+assigning.Given as goal
use Rattle.fb_ranges.specs.Views.{names_of}

abbrev pub decreases-assigned : goal.decreases-assigned
decreases-assigned l = 3 * most stmt_size l.list.now + 1

abbrev pub decreases-assigned_one : goal.decreases-assigned_one
decreases-assigned_one l = 3 * stmt_size l.statement.now

abbrev pub decreases-assigned_branches : goal.decreases-assigned_branches
decreases-assigned_branches l = 3 * most branch_size l.list.now + 1

abbrev pub decreases-assigned_arms : goal.decreases-assigned_arms
decreases-assigned_arms l = 3 * most arm_size l.list.now + 1

abbrev pub invariant-assigned-loop-statement : goal.invariant-assigned-loop-statement
invariant-assigned-loop-statement l = names_of l.names.items ++ assigned (commands_of (drop l.statement-index l.list)) ≡ names_of l.initial.names.items ++ assigned (commands_of l.list)

abbrev pub invariant-assigned_branches-loop-branch : goal.invariant-assigned_branches-loop-branch
invariant-assigned_branches-loop-branch l = names_of l.names.items ++ assigned_choices (choices_of (drop l.branch-index l.list)) ≡ names_of l.initial.names.items ++ assigned_choices (choices_of l.list)

abbrev pub invariant-assigned_arms-loop-arm : goal.invariant-assigned_arms-loop-arm
invariant-assigned_arms-loop-arm l = names_of l.names.items ++ assigned_cases (cases_of (drop l.arm-index l.list)) ≡ names_of l.initial.names.items ++ assigned_cases (cases_of l.list)
