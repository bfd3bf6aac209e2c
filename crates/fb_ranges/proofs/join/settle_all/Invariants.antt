use Rattle.std.proofs.Common.{◌≡◌, drop, take}
use Rattle.std.specs.Prelude.{◌&&◌}
use Rattle.fb_model.specs.Clear.{are_kept, reset}
use Rattle.fb_model.specs.Asking.{asking_all}
use Rattle.fb_ranges.specs.Settling.{held}
use Rattle.fb_ranges.specs.Views.{names_of, spans_of}
use Rattle.fb_ranges.proofs.join.settle_all.Given as goal

abbrev pub invariant-loop-name : goal.invariant-loop-name
invariant-loop-name l =
    record {
      asks :
          asking_all (names_of (drop l.name-index l.names)) (spans_of l.ranges) (held (spans_of l.rows) (spans_of l.asked))
          ≡ asking_all (names_of l.names) (spans_of l.initial.ranges) (held (spans_of l.rows) (spans_of l.initial.asked));
      kept : (l.are_kept && are_kept (names_of (drop l.name-index l.names)) (spans_of l.rows) (spans_of l.ranges)) ≡ are_kept (names_of l.names) (spans_of l.rows) (spans_of l.initial.ranges);
      rest : spans_of l.ranges ≡ reset (names_of (take l.name-index l.names)) (spans_of l.rows) (spans_of l.initial.ranges);
    }
