use Rattle.std.proofs.Common.{take}
use Rattle.fb_chart.specs.Tables.{Each}
use Rattle.fb_device_tables.specs.Filling.{IsStateMade}
use Rattle.fb_device_tables.proofs.state.states.Given as goal

abbrev pub invariant-loop-index : goal.invariant-loop-index
invariant-loop-index l = Each (IsStateMade l.own l.block) (take l.index l.block.states.entries) l.states.items
