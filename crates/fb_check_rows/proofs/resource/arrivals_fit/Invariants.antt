use Rattle.std.proofs.Common.{drop}
use Rattle.std.specs.List.{AllByRecursion}
use Rattle.fb_check_rows.specs.Depths.{LeafArrives}
use Rattle.fb_check_rows.proofs.resource.arrivals_fit.Given as goal

abbrev pub invariant-loop-leaf : goal.invariant-loop-leaf
invariant-loop-leaf l = AllByRecursion (LeafArrives l.certificate l.depth) (drop l.leaf-index l.resource.leaves.items) → AllByRecursion (LeafArrives l.certificate l.depth) l.resource.leaves.items
