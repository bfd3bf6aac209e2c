use Rattle.std.proofs.Common.{map, take, string_bytes}
use Rattle.fb_chart.specs.Tables.{Each}
use Rattle.fb_device_tables.specs.Filling.{IsGiveMade}
use Rattle.fb_device_tables.proofs.give.gives.Given as goal

abbrev pub invariant-loop-name : goal.invariant-loop-name
invariant-loop-name l = Each (IsGiveMade l.own l.issued) (take l.name-index (map string_bytes l.names)) l.gives.items
