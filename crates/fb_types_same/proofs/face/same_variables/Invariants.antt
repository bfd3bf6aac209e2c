use Rattle.std.proofs.Common.{◌≡◌, map, take}
use Rattle.fb_types_same.proofs.Entries.{variable_entry}
use Rattle.fb_types_same.proofs.face.same_variables.Given as goal

abbrev pub invariant-loop-at : goal.invariant-loop-at
invariant-loop-at l = map variable_entry (take l.at l.one.entries) ≡ map variable_entry (take l.at l.other.entries)
