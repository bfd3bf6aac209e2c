use Rattle.fb_types_blocks.specs.Views.{names_of}
use Rattle.fb_device_tables.specs.Filling.{IsBlockMade, seat_of, seats_of}
use Rattle.fb_lists.proofs.Lists.{there_at}
use Rattle.fb_device_tables.proofs.Lists.{each_more}
use Rattle.fb_device_tables.proofs.block.blocks.Goals as goal

pub loop-seat-preserved : goal.loop-seat-preserved
loop-seat-preserved c =
    let made = IsBlockMade c.args.certificate.now (names_of c.args.paths.now) (seats_of c.args.seats.now) in
    let g = there_at seat_of c.args.seats.now c.loop-seat.seat-index c.seat-item.result c.loop-seat-test.true c.seat-item.is in
    record {
      made = each_more made (seats_of c.args.seats.now) c.loop-seat.seat-index (seat_of c.seat-item.result) c.loop-seat.blocks.items c.push.new.self.items _
          g.0 g.1 c.in_ok-push.ensures.items c.loop-seat.invariant.made c.in_ok-block.ensures.block;
      known = c.in_ok-block.ensures.known;
    }
