use Rattle.std.proofs.Common.{◌≡◌, map, drop}
use Rattle.fb_ranges.specs.Views.{spans_of}
use Rattle.fb_find_ranges.specs.Lines.{put}
use Rattle.fb_find_ranges.specs.Views.{line_of}
use Rattle.fb_find_ranges.proofs.table.put.Given as goal

abbrev pub invariant-loop-row : goal.invariant-loop-row
invariant-loop-row l = put (map line_of (drop l.row-index l.rows)) (spans_of l.ranges) ≡ put (map line_of l.rows) (spans_of l.initial.ranges)
