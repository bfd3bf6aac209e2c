use Rattle.std.proofs.Common.{◌≡◌, ◌++◌, map, drop}
use Rattle.fb_find_demands.specs.Leaves.{leaves_under}
use Rattle.fb_find_demands.proofs.leaves.every_leaf.Given as goal

abbrev pub invariant-loop-device : goal.invariant-loop-device
invariant-loop-device l = map (λ x. x.now) l.all.items ++ leaves_under (drop l.device-index l.devices) ≡ leaves_under l.devices
