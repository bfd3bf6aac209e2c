use Rattle.std.proofs.Common.{◌≡◌, map, take}
use Rattle.st_types.specs.CommandViews.{command_of, choice_of, case_of}
use Rattle.fb_types_same.proofs.algorithm.+statements.Given as goal

abbrev pub invariant-same_arms-loop-at : goal.invariant-same_arms-loop-at
invariant-same_arms-loop-at l = map case_of (take l.at l.one) ≡ map case_of (take l.at l.other)

abbrev pub invariant-same_branches-loop-at : goal.invariant-same_branches-loop-at
invariant-same_branches-loop-at l = map choice_of (take l.at l.one) ≡ map choice_of (take l.at l.other)

abbrev pub invariant-same_statements-loop-at : goal.invariant-same_statements-loop-at
invariant-same_statements-loop-at l = map command_of (take l.at l.one) ≡ map command_of (take l.at l.other)
