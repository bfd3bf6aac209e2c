use Rattle.std.proofs.Common.{◌≡◌, ◌+◌, ◌-◌, ◌*◌, ◌&&◌, true, map, max, drop, string_bytes, pos, ◌+ℤ◌, ◌*ℤ◌}
use denote.Param.Weighed.{most}
use Rattle.fb_model.specs.TypedText.{choose, match_on, constant}
use Rattle.fb_model.specs.Language.{more, iteration_count, iterations, run, run_choices, run_cases}
use Rattle.st_exec.specs.CodeViews.{code_commands, code_choices, code_cases}
use Rattle.st_exec.specs.Placed.{placed_branch, placed_arm, placed_all, all_true}
use Rattle.st_exec.proofs.command.CodeStmt.TheLaws.{the_size as stmt_size}
use Rattle.st_exec.proofs.command.CodeBranch.TheLaws.{the_size as branch_size}
use Rattle.st_exec.proofs.command.CodeArm.TheLaws.{the_size as arm_size}
use Rattle.st_exec.specs.Cells.{values_of, forms_of}
use Rattle.st_exec.specs.Runs.{Supports, SupportsOne}
use Rattle.st_exec.proofs.execute.+running.Given as goal

abbrev pub decreases-run_statement : goal.decreases-run_statement
decreases-run_statement l = 4 * stmt_size l.statement.now

abbrev pub decreases-run_list : goal.decreases-run_list
decreases-run_list l = 4 * most stmt_size l.list.now + 1

abbrev pub decreases-run_branches : goal.decreases-run_branches
decreases-run_branches l = 4 * max (most branch_size l.list.now) (most stmt_size l.rest.now) + 2

abbrev pub decreases-run_arms : goal.decreases-run_arms
decreases-run_arms l = 4 * max (most arm_size l.list.now) (most stmt_size l.rest.now) + 2

abbrev pub decreases-run_iterations : goal.decreases-run_iterations
decreases-run_iterations l = 4 * most stmt_size l.body.now + 2

abbrev pub invariant-run_list-loop-statement : goal.invariant-run_list-loop-statement
invariant-run_list-loop-statement l = record {
  left : more l.steps (run (code_commands (drop l.statement-index l.list)) (values_of l.store)) ≡ run (code_commands l.list) (values_of l.initial.store);
  serves : Supports (forms_of l.store) (code_commands (drop l.statement-index l.list));
  same : forms_of l.store ≡ forms_of l.initial.store;
  slots : placed_all (forms_of l.store) (drop l.statement-index l.list) ≡ true;
}

abbrev pub invariant-run_branches-loop-branch : goal.invariant-run_branches-loop-branch
invariant-run_branches-loop-branch l = record {
  still : l.store ≡ l.initial.store;
  left : run_choices (code_choices (drop l.branch-index l.list)) (values_of l.store) (run (code_commands l.rest) (values_of l.store)) ≡ run_choices (code_choices l.list) (values_of l.initial.store) (run (code_commands l.rest) (values_of l.initial.store));
  serves : SupportsOne (forms_of l.store) (choose (code_choices (drop l.branch-index l.list)) (code_commands l.rest));
  slots : (all_true (map (placed_branch (forms_of l.store)) (drop l.branch-index l.list)) && placed_all (forms_of l.store) l.rest) ≡ true;
}

abbrev pub invariant-run_arms-loop-arm : goal.invariant-run_arms-loop-arm
invariant-run_arms-loop-arm l = record {
  still : l.store ≡ l.initial.store;
  left : run_cases (code_cases (drop l.arm-index l.list)) l.number (values_of l.store) (run (code_commands l.rest) (values_of l.store)) ≡ run_cases (code_cases l.list) l.number (values_of l.initial.store) (run (code_commands l.rest) (values_of l.initial.store));
  serves : SupportsOne (forms_of l.store) (match_on (constant l.number) (code_cases (drop l.arm-index l.list)) (code_commands l.rest));
  slots : (all_true (map (placed_arm (forms_of l.store)) (drop l.arm-index l.list)) && placed_all (forms_of l.store) l.rest) ≡ true;
}

abbrev pub invariant-run_iterations-loop-iteration : goal.invariant-run_iterations-loop-iteration
invariant-run_iterations-loop-iteration l = record {
  count : l.iteration-end ≡ iteration_count l.first l.last l.counting.step;
  left : more l.steps (iterations (l.iteration-end - l.iteration) (run (code_commands l.body)) (string_bytes l.counting.variable) (l.first +ℤ pos l.iteration *ℤ l.counting.step) l.counting.step (values_of l.store)) ≡ iterations l.iteration-end (run (code_commands l.body)) (string_bytes l.counting.variable) l.first l.counting.step (values_of l.initial.store);
  same : forms_of l.store ≡ forms_of l.initial.store;
}
