use Rattle.std.proofs.Common.{◌≡◌, map, take}
use Rattle.fb_types_same.proofs.Entries.{event_entry}
use Rattle.fb_types_same.proofs.face.same_events.Given as goal

abbrev pub invariant-loop-at : goal.invariant-loop-at
invariant-loop-at l = map event_entry (take l.at l.one.entries) ≡ map event_entry (take l.at l.other.entries)
