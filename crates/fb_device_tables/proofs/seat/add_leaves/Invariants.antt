use Rattle.std.proofs.Common.{◌≡◌, ◌++◌, take}
use Rattle.fb_device_tables.specs.Filling.{homes_of, numbered}
use Rattle.fb_device_tables.proofs.seat.add_leaves.Given as goal

abbrev pub invariant-loop-leaf : goal.invariant-loop-leaf
invariant-loop-leaf l = homes_of l.homes.items ≡ homes_of l.initial.homes.items ++ numbered l.resource (take l.leaf-index l.leaves)
