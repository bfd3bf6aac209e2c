use Rattle.std.proofs.Common.{◌≤◌}
use Rattle.fb_find_room.proofs.Reckoning.{AreCountedAt, top}
use Rattle.fb_find_room.proofs.arrivals.at_path.Given as goal

abbrev pub invariant-loop-device : goal.invariant-loop-device
invariant-loop-device l = (l.places ≤ top) × AreCountedAt l.certificate l.path l.flat.devices.items l.device-index l.places
