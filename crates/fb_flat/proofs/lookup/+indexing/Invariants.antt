use Rattle.std.proofs.Common.{take}
use Rattle.fb_flat.specs.Indexes.{AreInside}
use Rattle.fb_flat.proofs.lookup.+indexing.Given as goal

-- so far there is one for each instance
abbrev pub invariant-index-loop-instance : goal.invariant-index-loop-instance
invariant-index-loop-instance l = AreInside (take l.instance-index l.instance-items) l.inside.items
