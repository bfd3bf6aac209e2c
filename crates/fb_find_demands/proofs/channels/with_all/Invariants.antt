use Rattle.std.proofs.Common.{◌≡◌, ◌++◌, drop}
use Rattle.fb_find_demands.proofs.channels.with_all.Given as goal

abbrev pub invariant-loop-number : goal.invariant-loop-number
invariant-loop-number l = l.all.items ++ drop l.number-index l.more ≡ l.initial.all.items ++ l.more
