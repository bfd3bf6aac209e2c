use Rattle.std.proofs.Common.{◌≡◌, take}
use Rattle.fb_model.specs.Clear.{Spans, reset}
use Rattle.fb_ranges.specs.Views.{names_of, spans_of}
use Rattle.fb_ranges.proofs.Noted.{IsNoted}
use Rattle.fb_ranges.proofs.merge.take_back.Given as goal

abbrev pub invariant-loop-i : goal.invariant-loop-i
invariant-loop-i l = (spans : Spans) → IsNoted l.names spans l.noted → spans_of l.ranges ≡ reset (names_of (take l.i l.names)) spans (spans_of l.initial.ranges)
