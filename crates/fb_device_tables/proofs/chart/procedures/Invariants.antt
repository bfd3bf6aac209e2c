use Rattle.std.proofs.Common.{take}
use Rattle.fb_chart.specs.Tables.{Each}
use Rattle.fb_device_tables.specs.Filling.{IsProcedureMade}
use Rattle.fb_device_tables.proofs.chart.procedures.Given as goal

abbrev pub invariant-loop-index : goal.invariant-loop-index
invariant-loop-index l = Each (IsProcedureMade l.own) (take l.index l.block.procedures.entries) l.procedures.items
