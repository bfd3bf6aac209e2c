use Rattle.std.proofs.Common.{take}
use Rattle.fb_chart.specs.Tables.{Each}
use Rattle.fb_device_tables.specs.Filling.{IsResourceMade}
use Rattle.fb_device_tables.proofs.number.resources.Given as goal

abbrev pub invariant-loop-source : goal.invariant-loop-source
invariant-loop-source l = Each (IsResourceMade l.certificate l.device) (take l.source-index l.sources) l.resources.items
