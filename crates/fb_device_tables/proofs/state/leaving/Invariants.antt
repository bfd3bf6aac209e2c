use Rattle.std.proofs.Common.{take}
use Rattle.fb_chart.specs.Tables.{Each}
use Rattle.fb_device_tables.specs.Filling.{leaving_from, IsTransitionMade}
use Rattle.fb_device_tables.proofs.state.leaving.Given as goal

abbrev pub invariant-loop-source : goal.invariant-loop-source
invariant-loop-source l = Each (IsTransitionMade l.own l.block) (leaving_from l.name (take l.source-index l.sources)) l.transitions.items
