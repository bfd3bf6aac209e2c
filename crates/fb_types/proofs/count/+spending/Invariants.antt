use Rattle.std.proofs.Common.{◌≡◌, ◌+◌, drop}
use Rattle.fb_types.proofs.Counted.{total}
use Rattle.fb_types.proofs.count.+spending.Given as goal

-- what is left, with what all have, is the budget with what those left have
abbrev pub invariant-spend_all-loop-instance : goal.invariant-spend_all-loop-instance
invariant-spend_all-loop-instance l = l.left + total l.initial.instances ≡ l.initial.left + total (drop l.instance-index l.initial.instances)
