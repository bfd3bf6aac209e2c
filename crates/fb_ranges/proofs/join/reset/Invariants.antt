use Rattle.std.proofs.Common.{◌≡◌, take}
use Rattle.fb_model.specs.Clear.{reset}
use Rattle.fb_ranges.specs.Views.{names_of, spans_of}
use Rattle.fb_ranges.proofs.join.reset.Given as goal

abbrev pub invariant-loop-name : goal.invariant-loop-name
invariant-loop-name l = spans_of l.ranges ≡ reset (names_of (take l.name-index l.names)) (spans_of l.rows) (spans_of l.initial.ranges)
