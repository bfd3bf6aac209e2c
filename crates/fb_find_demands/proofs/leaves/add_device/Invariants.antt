use Rattle.std.proofs.Common.{◌≡◌, ◌++◌, map, drop}
use Rattle.fb_check_ranges.specs.Places.{leaves_in}
use Rattle.fb_find_demands.proofs.leaves.add_device.Given as goal

abbrev pub invariant-loop-leaf : goal.invariant-loop-leaf
invariant-loop-leaf l = map (λ x. x.now) l.all.items ++ map (λ x. x.now) (drop l.leaf-index l.leaf-items) ≡ map (λ x. x.now) l.fn.all.items ++ leaves_in l.device.resources.items
