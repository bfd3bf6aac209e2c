use denote.Ref.{Bor}
use Rattle.fb_model.specs.Names.{Name}
use Rattle.fb_types_blocks.specs.Views.{names_of}
use Rattle.fb_types_services.specs.Views.{service_of}
use Rattle.fb_device_tables.specs.Filling.{IsEventMade, served_with, seat_of, seats_of}
use Rattle.fb_device_tables.proofs.Lists.{each_image_more}
use Rattle.fb_device_tables.proofs.event.service_inputs.Goals as goal

pub loop-name-preserved : goal.loop-name-preserved
loop-name-preserved c =
    λ small.
    let made = IsEventMade c.args.seating.now.certificate.now (names_of c.args.seating.now.paths.now) (seats_of c.args.seating.now.seats.now) (seat_of c.args.seat.now) in
    let with_data = λ (n : Bor Name). served_with (service_of c.args.service.now) n.now in
    each_image_more made with_data c.args.names.now c.loop-name.name-index _ c.loop-name.events.items c.push.new.self.items c.in_ok-service_event.field-0
    c.loop-name-test.true c.in_ok-push.ensures.items (c.loop-name.invariant small) (c.in_ok-service_event.ensures small)
