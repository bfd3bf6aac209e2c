use Rattle.std.proofs.Common.{◌≡◌, map, take}
use Rattle.fb_check_ranges.specs.Places.{leaves_in}
use Rattle.fb_check_ranges.proofs.place.leaves_of.Given as goal

abbrev pub invariant-loop-resource : goal.invariant-loop-resource
invariant-loop-resource l = map (λ y. y.now) l.all.items ≡ leaves_in (take l.resource-index l.resources)
