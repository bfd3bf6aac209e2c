use Rattle.std.proofs.Common.{take}
use Rattle.fb_flat.specs.Placed.{AreNames}
use Rattle.fb_flat.proofs.position.positions.Given as goal

-- the table has those so far
abbrev pub invariant-loop-position : goal.invariant-loop-position
invariant-loop-position l = AreNames (take l.position l.instances) l.positions
