use Rattle.std.proofs.Common.{◌≡◌, replicate, Some}
use Rattle.fb_check_columns.proofs.costed.no_costs.Given as goal

-- as many zeros as algorithms so far
abbrev pub invariant-loop : goal.invariant-loop
invariant-loop l = l.costs.items ≡ replicate l.counter (Some 0)
