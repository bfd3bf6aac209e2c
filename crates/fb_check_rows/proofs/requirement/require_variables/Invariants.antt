use Rattle.std.proofs.Common.{◌≡◌, drop}
use Rattle.fb_types_blocks.specs.Views.{names_of, variables_of}
use Rattle.fb_check_rows.specs.Members.{gathered}
use Rattle.fb_check_rows.specs.Texts.{texts_in, ranged_names}
use Rattle.fb_check_rows.proofs.Tables.{listed}
use Rattle.fb_check_rows.proofs.requirement.require_variables.Given as goal

-- with the rows of the variables that are left, all are there
abbrev pub invariant-loop-index : goal.invariant-loop-index
invariant-loop-index l = gathered (names_of l.rows) (texts_in l.path (ranged_names (listed (drop l.index l.variables.entries)))) ≡ gathered (names_of l.initial.rows) (texts_in l.path (ranged_names (variables_of l.variables)))
