use Rattle.std.proofs.Common.{◌≤◌}
use Rattle.fb_find_room.proofs.Reckoning.{AreCountedIn, top}
use Rattle.fb_find_room.proofs.arrivals.at_device.Given as goal

abbrev pub invariant-loop-resource : goal.invariant-loop-resource
invariant-loop-resource l = (l.places ≤ top) × AreCountedIn l.certificate l.path l.device l.resource-index l.places
