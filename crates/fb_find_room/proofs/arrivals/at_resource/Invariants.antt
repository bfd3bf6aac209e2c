use Rattle.std.proofs.Common.{◌≤◌}
use Rattle.fb_find_room.proofs.Reckoning.{AreCounted, top}
use Rattle.fb_find_room.proofs.arrivals.at_resource.Given as goal

abbrev pub invariant-loop-leaf : goal.invariant-loop-leaf
invariant-loop-leaf l = (l.places ≤ top) × AreCounted l.certificate l.resource.leaves.items l.leaf-index l.places
