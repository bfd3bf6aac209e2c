use Rattle.std.proofs.Common.{take}
use Rattle.fb_types_blocks.specs.Views.{names_of, events_of}
use Rattle.fb_chart.specs.Tables.{Each}
use Rattle.fb_device_tables.specs.Filling.{IsEventMade, seat_of, seats_of}
use Rattle.fb_device_tables.proofs.event.charted.Given as goal

abbrev pub invariant-loop-index : goal.invariant-loop-index
invariant-loop-index l = Each (IsEventMade l.seating.certificate.now (names_of l.seating.paths.now) (seats_of l.seating.seats.now) (seat_of l.seat)) (take l.index (events_of l.sources)) l.events.items
