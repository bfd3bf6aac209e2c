use Rattle.std.proofs.Common.{◌≡◌, take}
use Rattle.fb_model.specs.Clear.{reset}
use Rattle.fb_ranges.specs.Meeting.{ranges_after}
use Rattle.fb_ranges.specs.Views.{mark_of, names_in, spans_of}
use Rattle.fb_ranges.proofs.merge.close.Given as goal

abbrev pub invariant-loop-i : goal.invariant-loop-i
invariant-loop-i l = spans_of l.ranges ≡ reset (names_in (take l.i l.ways.rows.entries)) (ranges_after l.ways.count (mark_of l.ways) (spans_of l.initial.ranges)) (spans_of l.initial.ranges)
