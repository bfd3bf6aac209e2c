use Rattle.std.proofs.Common.{◌≡◌, map, take}
use Rattle.fb_types_same.proofs.Entries.{state_entry}
use Rattle.fb_types_same.proofs.chart.same_states.Given as goal

abbrev pub invariant-loop-at : goal.invariant-loop-at
invariant-loop-at l = map state_entry (take l.at l.one.entries) ≡ map state_entry (take l.at l.other.entries)
