use Rattle.std.proofs.Common.{◌≡◌, ◌++◌, map, take}
use Rattle.fb_types_blocks.specs.Views.{variables_of}
use Rattle.fb_flat.specs.Tables.{source_at}
use Rattle.fb_find_ranges.specs.Lines.{first_from, line_by}
use Rattle.fb_find_ranges.specs.Views.{line_of}
use Rattle.fb_find_ranges.proofs.Entries.{booked}
use Rattle.fb_find_ranges.proofs.first.add_rows.Given as goal

abbrev pub invariant-loop-index : goal.invariant-loop-index
invariant-loop-index l =
    map line_of l.rows.items ≡ map line_of l.initial.rows.items ++ map (line_by (first_from (variables_of l.inputs) (source_at l.sources))) (booked (take l.index l.variables.entries))
