use Rattle.std.proofs.Common.{List, ◌++◌, take}
use Rattle.fb_flat.specs.declared.flat.Leaf.{Leaf}
use Rattle.fb_device_values.specs.Filling.{AreFilled}
use Rattle.fb_device_values.proofs.first.add_leaves.Given as goal

abbrev pub invariant-loop-leaf : goal.invariant-loop-leaf
invariant-loop-leaf l = (before : List Leaf) → AreFilled before l.initial.values.own.items l.initial.values.issued.items → AreFilled (before ++ take l.leaf-index l.leaves) l.values.own.items l.values.issued.items
