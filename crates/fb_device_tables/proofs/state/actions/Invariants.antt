use Rattle.std.proofs.Common.{take}
use Rattle.fb_chart.specs.Tables.{Each}
use Rattle.fb_device_tables.specs.Filling.{IsActionMade}
use Rattle.fb_device_tables.proofs.state.actions.Given as goal

abbrev pub invariant-loop-source : goal.invariant-loop-source
invariant-loop-source l = Each (IsActionMade l.block) (take l.source-index l.sources) l.actions.items
