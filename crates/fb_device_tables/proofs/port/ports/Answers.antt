use Rattle.fb_device_tables.specs.Filling.{IsPortsMade, seat_of, seats_of}
use Rattle.fb_lists.proofs.Lists.{there_at}
use Rattle.fb_device_tables.proofs.Lists.{each_more}
use Rattle.fb_device_tables.proofs.port.ports.Goals as goal

pub loop-seat-preserved : goal.loop-seat-preserved
loop-seat-preserved c =
    let g = there_at seat_of c.args.seats.now c.loop-seat.seat-index c.seat-item.result c.loop-seat-test.true c.seat-item.is in
    each_more IsPortsMade (seats_of c.args.seats.now) c.loop-seat.seat-index (seat_of c.seat-item.result) c.loop-seat.ports.items c.push.new.self.items _
    g.0 g.1 c.in_ok-push.ensures.items c.loop-seat.invariant c.in_ok-port.ensures
