use Rattle.std.proofs.Common.{◌≡◌, take}
use Rattle.st_exec.specs.Laid.{forms_in}
use Rattle.st_exec.proofs.location.same_locations.Given as goal

abbrev pub invariant-loop-at : goal.invariant-loop-at
invariant-loop-at l = forms_in (take l.at l.one.entries) ≡ forms_in (take l.at l.other.entries)
