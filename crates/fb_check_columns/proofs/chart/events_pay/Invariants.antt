use Rattle.std.proofs.Common.{take}
use Rattle.std.specs.List.{AllByRecursion}
use Rattle.fb_check_columns.specs.Paying.{EventPays}
use Rattle.fb_check_columns.proofs.chart.events_pay.Given as goal

abbrev pub invariant-loop-transition : goal.invariant-loop-transition
invariant-loop-transition l = AllByRecursion (EventPays l.rows.column l.rows.certificate.now l.rows.path.now) (take l.transition-index l.transitions)
