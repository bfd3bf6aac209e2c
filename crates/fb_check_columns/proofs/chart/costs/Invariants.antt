use Rattle.std.proofs.Common.{map, take}
use Rattle.fb_check_columns.specs.Reckoning.{AreSums, Costs, ArePrices, own_of}
use Rattle.fb_check_columns.proofs.chart.costs.Given as goal

-- the costs so far are those of the states so far
abbrev pub invariant-loop-index : goal.invariant-loop-index
invariant-loop-index l = (ns : Costs) → ArePrices l.prices ns → AreSums l.costs.items (map (own_of l.block ns) (take l.index l.states.entries))
