use Rattle.fb_check_rows.specs.Depths.{depth_of}
use Rattle.fb_check_rows.proofs.Beginning.{IsLeft}
use Rattle.fb_check_rows.proofs.begin.begins_fit.Given as goal

abbrev pub invariant-loop-leaf : goal.invariant-loop-leaf
invariant-loop-leaf l = IsLeft l.certificate l.resource.leaves.items l.leaf-index l.left (depth_of l.certificate l.resource)
