use Rattle.std.proofs.Common.{map, take}
use Rattle.fb_types_blocks.specs.Views.{names_of}
use Rattle.fb_types_services.specs.Views.{service_of}
use Rattle.fb_chart.specs.Tables.{Each}
use Rattle.fb_device_tables.specs.Filling.{IsSmall, IsEventMade, served_with, seat_of, seats_of}
use Rattle.fb_device_tables.proofs.event.service_inputs.Given as goal

abbrev pub invariant-loop-name : goal.invariant-loop-name
invariant-loop-name l =
    IsSmall (service_of l.service) → Each (IsEventMade l.seating.certificate.now (names_of l.seating.paths.now) (seats_of l.seating.seats.now) (seat_of l.seat)) (take l.name-index (map (λ n. served_with (service_of l.service) n.now) l.names)) l.events.items
