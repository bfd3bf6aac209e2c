use Rattle.std.proofs.Common.{◌≡◌, map, take}
use Rattle.fb_types_same.proofs.Entries.{procedure_entry}
use Rattle.fb_types_same.proofs.chart.same_procedures.Given as goal

abbrev pub invariant-loop-at : goal.invariant-loop-at
invariant-loop-at l = map procedure_entry (take l.at l.one.entries) ≡ map procedure_entry (take l.at l.other.entries)
