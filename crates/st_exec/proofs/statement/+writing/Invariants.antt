use Rattle.std.proofs.Common.{◌≡◌, true, map, take}
use Rattle.st_types.specs.CommandViews.{command_of, case_of, choice_of}
use Rattle.st_exec.specs.CodeViews.{code_command, code_case, code_choice}
use Rattle.st_exec.specs.Placed.{placed_stmt, placed_arm, placed_branch, all_true}
use Rattle.st_exec.proofs.statement.+writing.Given as goal

abbrev pub invariant-coded_list-loop-statement : goal.invariant-coded_list-loop-statement
invariant-coded_list-loop-statement l = record {
  same : map code_command l.coded.items ≡ map command_of (take l.statement-index l.list);
  slots : all_true (map (placed_stmt l.layout) l.coded.items) ≡ true;
}

abbrev pub invariant-coded_branches-loop-branch : goal.invariant-coded_branches-loop-branch
invariant-coded_branches-loop-branch l = record {
  same : map code_choice l.coded.items ≡ map choice_of (take l.branch-index l.list);
  slots : all_true (map (placed_branch l.layout) l.coded.items) ≡ true;
}

abbrev pub invariant-coded_arms-loop-arm : goal.invariant-coded_arms-loop-arm
invariant-coded_arms-loop-arm l = record {
  same : map code_case l.coded.items ≡ map case_of (take l.arm-index l.list);
  slots : all_true (map (placed_arm l.layout) l.coded.items) ≡ true;
}
