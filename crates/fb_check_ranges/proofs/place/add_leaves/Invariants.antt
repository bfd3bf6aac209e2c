use Rattle.std.proofs.Common.{◌≡◌, ◌++◌, map, take}
use Rattle.fb_check_ranges.proofs.place.add_leaves.Given as goal

abbrev pub invariant-loop-leaf : goal.invariant-loop-leaf
invariant-loop-leaf l = map (λ y. y.now) l.all.items ≡ map (λ y. y.now) l.initial.all.items ++ take l.leaf-index l.leaves
