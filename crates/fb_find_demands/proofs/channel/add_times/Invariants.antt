use Rattle.std.proofs.Common.{◌≡◌, ◌++◌, replicate}
use Rattle.fb_find_demands.proofs.channel.add_times.Given as goal

abbrev pub invariant-loop : goal.invariant-loop
invariant-loop l = l.terms.items ≡ l.initial.terms.items ++ replicate l.counter l.fn.number
