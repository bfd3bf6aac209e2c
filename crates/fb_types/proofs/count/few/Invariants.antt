use Rattle.std.proofs.Common.{◌≡◌, ◌+◌, take}
use Rattle.fb_types.proofs.Counted.{total}
use Rattle.fb_types.proofs.count.few.Given as goal

-- what is left, with what those so far have, is the limit
abbrev pub invariant-loop-instance : goal.invariant-loop-instance
invariant-loop-instance l = l.left + total (take l.instance-index l.instances) ≡ 1024
