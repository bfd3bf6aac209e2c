use Rattle.std.proofs.Common.{◌≡◌, map, take}
use Rattle.fb_model.specs.Clear.{reset}
use Rattle.fb_ranges.specs.Views.{spans_of}
use Rattle.fb_check_ranges.specs.Beginning.{entry_name}
use Rattle.fb_check_ranges.specs.Clearing.{rows_of_block}
use Rattle.fb_check_ranges.proofs.row.add_rows.Given as goal

abbrev pub invariant-loop-index : goal.invariant-loop-index
invariant-loop-index l = spans_of l.rows ≡ reset (map entry_name (take l.index l.variables.entries)) (rows_of_block l.certificate l.path l.block) (spans_of l.initial.rows)
