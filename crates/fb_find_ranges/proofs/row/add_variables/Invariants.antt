use Rattle.std.proofs.Common.{◌≡◌, drop}
use Rattle.fb_types_blocks.specs.Views.{variables_of}
use Rattle.fb_ranges.specs.Views.{spans_of}
use Rattle.fb_cert.specs.Views.{rows_of}
use Rattle.fb_find_ranges.specs.AddedRows.{adding, variable_rows}
use Rattle.fb_check_rows.proofs.Tables.{listed}
use Rattle.fb_find_ranges.proofs.row.add_variables.Given as goal

-- with the rows of the variables that are left, all are there
abbrev pub invariant-loop-index : goal.invariant-loop-index
invariant-loop-index l =
    adding (variable_rows (spans_of l.table) l.path (listed (drop l.index l.variables.entries))) (rows_of l.certificate) ≡ adding (variable_rows (spans_of l.table) l.path (variables_of l.variables)) (rows_of l.initial.certificate)
