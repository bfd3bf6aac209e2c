use Rattle.std.proofs.Common.{map, take, string_bytes}
use Rattle.fb_types_blocks.specs.Views.{names_of}
use Rattle.fb_chart.specs.Tables.{Each}
use Rattle.fb_device_tables.specs.Filling.{IsTakeMade, seats_of}
use Rattle.fb_device_tables.proofs.take.takes.Given as goal

abbrev pub invariant-loop-name : goal.invariant-loop-name
invariant-loop-name l = Each (IsTakeMade (names_of l.paths) (seats_of l.seats) l.own l.inputs) (take l.name-index (map string_bytes l.names)) l.takes.items
