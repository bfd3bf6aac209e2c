use Rattle.std.proofs.Common.{◌≡◌, ◌+◌, drop}
use Rattle.fb_types_blocks.specs.Views.{variables_of}
use Rattle.fb_find_length.specs.Counting.{ranges_length}
use Rattle.fb_find_length.proofs.Counting.{listed}
use Rattle.fb_find_length.proofs.row.ranges.Given as goal

-- what is left, with the rows of all variables, is the budget with those of the variables that are left
abbrev pub invariant-loop-index : goal.invariant-loop-index
invariant-loop-index l = l.left + ranges_length l.beside (variables_of l.variables) ≡ l.initial.left + ranges_length l.beside (listed (drop l.index l.variables.entries))
