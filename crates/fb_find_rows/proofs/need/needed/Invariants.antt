use Rattle.fb_find_rows.proofs.Needing.{AreReckoned}
use Rattle.fb_find_rows.proofs.need.needed.Given as goal

abbrev pub invariant-loop-leaf : goal.invariant-loop-leaf
invariant-loop-leaf l = AreReckoned l.certificate l.resource.leaves.items l.leaf-index l.most l.begins
