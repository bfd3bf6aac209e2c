use Rattle.std.proofs.Common.{take}
use Rattle.fb_chart.specs.Tables.{Each}
use Rattle.fb_device_tables.specs.Filling.{IsPortsMade, seats_of}
use Rattle.fb_device_tables.proofs.port.ports.Given as goal

abbrev pub invariant-loop-seat : goal.invariant-loop-seat
invariant-loop-seat l = Each IsPortsMade (take l.seat-index (seats_of l.seats)) l.ports.items
