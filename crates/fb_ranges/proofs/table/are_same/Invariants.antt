use Rattle.std.proofs.Common.{◌≡◌, map, take}
use Rattle.fb_ranges_intervals.specs.Views.{span_of}
use Rattle.fb_ranges.proofs.table.are_same.Given as goal

abbrev pub invariant-loop-at : goal.invariant-loop-at
invariant-loop-at l = map span_of (take l.at l.rows) ≡ map span_of (take l.at l.others)
