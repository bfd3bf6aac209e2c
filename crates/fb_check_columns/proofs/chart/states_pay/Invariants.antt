use Rattle.std.proofs.Common.{map, take}
use Rattle.std.specs.List.{AllByRecursion}
use Rattle.fb_check_columns.specs.Reckoning.{Costs, AreSums, own_of}
use Rattle.fb_check_columns.specs.Paying.{StatePays}
use Rattle.fb_check_columns.proofs.chart.states_pay.Given as goal

abbrev pub invariant-loop-index : goal.invariant-loop-index
invariant-loop-index l =
    (ns : Costs) → AreSums l.costs (map (own_of l.rows.block.now ns) l.rows.block.now.states.entries)
    → AllByRecursion (StatePays l.rows.column l.rows.certificate.now l.rows.path.now l.rows.block.now ns) (take l.index l.rows.block.now.states.entries)
