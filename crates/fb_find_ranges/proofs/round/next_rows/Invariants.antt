use Rattle.std.proofs.Common.{◌≡◌, map, take}
use Rattle.fb_find_ranges.specs.Lines.{next_line}
use Rattle.fb_find_ranges.specs.Views.{line_of, tabled_in, tabled_of}
use Rattle.fb_find_ranges.proofs.round.next_rows.Given as goal

abbrev pub invariant-loop-row : goal.invariant-loop-row
invariant-loop-row l = map line_of l.rows.items ≡ map (next_line l.round (map tabled_in l.leaves) (tabled_of l.leaf)) (map line_of (take l.row-index l.leaf.rows.items))
