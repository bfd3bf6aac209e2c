use Rattle.std.proofs.Common.{List, Option, None, Some, map, sym, subst, append-nil}
use Rattle.fb_model.specs.System as book
use Rattle.fb_model.specs.Services.{arrivals}
use Rattle.fb_model.specs.Wires.{Serviced}
use Rattle.fb_types_blocks.specs.Views.{names_of}
use Rattle.fb_types_services.specs.Views.{service_of}
use Rattle.fb_chart.specs.declared.table.Event.{Event}
use Rattle.fb_chart.specs.Tables.{Each}
use Rattle.fb_device_tables.specs.Filling.{IsEventMade, events_with, served_with, arrived, seat_of, seats_of}
use Rattle.fb_device_tables.proofs.Takes.{served_borrowed, served_made}
use Rattle.fb_device_tables.proofs.event.served.Goals as goal

pub returns-in_ok-push-in-Some : goal.returns-in_ok-push-in-Some
returns-in_ok-push-in-Some c =
    λ small.
    let s = service_of c.args.service.now in
    let made = IsEventMade c.args.seating.now.certificate.now (names_of c.args.seating.now.paths.now) (seats_of c.args.seating.now.seats.now) (seat_of c.args.seat.now) in
    let names = map (λ n. n.now) c.event_inputs-names.result.now in
    let es = c.in_ok-events.events.items in
    let inputs : Each made (map (served_with s) names) es = subst (λ (vs : List book.Event). Each made vs es) (served_borrowed s c.event_inputs-names.result.now) (c.in_ok-events.ensures small) in
    let all = served_made s made names es (Some c.in-Some.event) c.event_inputs-names.ensures inputs
    (subst (λ (o : Option Event). Each made (map (served_with s) (arrivals s)) (arrived o)) c.in-Some.is (c.in_ok-event.ensures small)) in
    subst (λ (xs : List Event). Each made (events_with (Serviced s)) xs) (sym c.in_ok-push-in-Some.ensures.items) all

pub returns-in-None : goal.returns-in-None
returns-in-None c =
    λ small.
    let s = service_of c.args.service.now in
    let made = IsEventMade c.args.seating.now.certificate.now (names_of c.args.seating.now.paths.now) (seats_of c.args.seating.now.seats.now) (seat_of c.args.seat.now) in
    let names = map (λ n. n.now) c.event_inputs-names.result.now in
    let es = c.in_ok-events.events.items in
    let inputs : Each made (map (served_with s) names) es = subst (λ (vs : List book.Event). Each made vs es) (served_borrowed s c.event_inputs-names.result.now) (c.in_ok-events.ensures small) in
    let all = served_made s made names es None c.event_inputs-names.ensures inputs
    (subst (λ (o : Option Event). Each made (map (served_with s) (arrivals s)) (arrived o)) c.in-None.is (c.in_ok-event.ensures small)) in
    subst (λ (xs : List Event). Each made (events_with (Serviced s)) xs) (append-nil es) all
