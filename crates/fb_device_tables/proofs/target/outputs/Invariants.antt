use Rattle.std.proofs.Common.{take}
use Rattle.fb_types_blocks.specs.Views.{names_of}
use Rattle.fb_chart.specs.Tables.{Each}
use Rattle.fb_device_tables.specs.Filling.{IsOutputMade, seat_of, seats_of}
use Rattle.fb_device_tables.proofs.target.outputs.Given as goal

abbrev pub invariant-loop-source : goal.invariant-loop-source
invariant-loop-source l = Each (IsOutputMade (names_of l.paths) (seats_of l.seats) (seat_of l.seat)) (take l.source-index l.sources) l.outputs.items
