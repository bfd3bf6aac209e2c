use Rattle.std.proofs.Common.{map, string_bytes, subst}
use Rattle.fb_model.specs.Names.{Name}
use Rattle.fb_types_blocks.specs.Views.{names_of, event_of, events_of}
use Rattle.fb_device_tables.specs.Filling.{IsEventMade, seat_of, seats_of}
use Rattle.fb_device_tables.proofs.Lists.{each_more, got_at}
use Rattle.fb_device_tables.proofs.event.charted.Goals as goal

pub loop-index-preserved : goal.loop-index-preserved
loop-index-preserved c =
    let made = IsEventMade c.args.seating.now.certificate.now (names_of c.args.seating.now.paths.now) (seats_of c.args.seating.now.seats.now) (seat_of c.args.seat.now) in
    let e = c.in_ok-event.field-0 in
    let g = got_at (λ p. event_of (string_bytes p.0) p.1.items) c.args.sources.now.entries c.loop-index.index (c.in-Some.name.now, c.in-Some.carried.now) c.in-Some.ensures.entry in
    let here = subst (λ (x : Name). made (record { name = x; carries = map string_bytes c.deref.result.now }) e) c.as_str.ensures.value c.in_ok-event.ensures in
    each_more made (events_of c.args.sources.now) c.loop-index.index (event_of (string_bytes c.in-Some.name.now) c.in-Some.carried.now.items) c.loop-index.events.items c.push.new.self.items e
    g.0 g.1 c.in_ok-push.ensures.items c.loop-index.invariant
    (subst (λ ss. made (event_of (string_bytes c.in-Some.name.now) ss) e) c.deref.ensures.value here)
