use Rattle.std.proofs.Common.{◌≡◌, map, take}
use Rattle.fb_ranges.specs.Views.{spans_of}
use Rattle.fb_find_ranges.specs.Lines.{spans_by}
use Rattle.fb_find_ranges.specs.Views.{lined_in}
use Rattle.fb_find_ranges.proofs.table.all_ranges.Given as goal

abbrev pub invariant-loop-leaf_rows : goal.invariant-loop-leaf_rows
invariant-loop-leaf_rows l = map spans_of l.tables.items ≡ map (λ s. spans_by s.lines) (map lined_in (take l.leaf_rows-index l.all))
