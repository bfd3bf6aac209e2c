use Rattle.std.proofs.Common.{take}
use Rattle.std.specs.List.{AllByRecursion}
use Rattle.fb_check_columns.specs.Reckoning.{table_names}
use Rattle.fb_check_columns.specs.Paying.{InputPays}
use Rattle.fb_check_columns.proofs.chart.inputs_pay.Given as goal

abbrev pub invariant-loop-index : goal.invariant-loop-index
invariant-loop-index l = AllByRecursion (InputPays l.rows.column l.rows.certificate.now l.rows.path.now l.next) (take l.index (table_names l.rows.block.now.face.event_inputs))
