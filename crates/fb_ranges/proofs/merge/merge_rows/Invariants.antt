use Rattle.std.proofs.Common.{◌≡◌, take}
use Rattle.fb_model.specs.Names.{Name}
use Rattle.fb_model.specs.Clear.{Spans}
use Rattle.fb_ranges.specs.Meeting.{marked}
use Rattle.fb_ranges.specs.Views.{mark_of, names_of, spans_of}
use Rattle.fb_ranges.proofs.Noted.{IsNoted}
use Rattle.fb_ranges.proofs.merge.merge_rows.Given as goal

abbrev pub invariant-loop-i : goal.invariant-loop-i
invariant-loop-i l =
    record {
      count : l.ways.count ≡ l.initial.ways.count;
      told : l.ways.told ≡ l.initial.ways.told;
      rows : (spans : Spans) → IsNoted l.names spans l.ends → (x : Name) → mark_of l.ways x ≡ marked l.initial.ways.count (names_of (take l.i l.names)) (spans_of l.ranges) spans (mark_of l.initial.ways) x;
    }
