use Rattle.std.proofs.Common.{ℕ, List, take}
use Rattle.std.specs.List.{AllByRecursion}
use Rattle.fb_check_columns.specs.Reckoning.{AreSums, value_at, table_names}
use Rattle.fb_check_columns.specs.Paying.{SourcePays}
use Rattle.fb_check_columns.proofs.chart.sources_pay.Given as goal

abbrev pub invariant-loop-transition : goal.invariant-loop-transition
invariant-loop-transition l =
    (ns : List ℕ) → AreSums l.costs ns → AllByRecursion (SourcePays l.rows.column l.rows.certificate.now l.rows.path.now (value_at (table_names l.rows.block.now.states) ns 0)) (take l.transition-index l.transitions)
