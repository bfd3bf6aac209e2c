use Rattle.fb_types_blocks.specs.Views.{names_of}
use Rattle.fb_device_tables.specs.Filling.{IsOutputMade, seat_of, seats_of}
use Rattle.fb_device_tables.proofs.Lists.{each_more}
use Rattle.fb_device_tables.proofs.target.outputs.Goals as goal

pub loop-source-preserved : goal.loop-source-preserved
loop-source-preserved c =
    each_more (IsOutputMade (names_of c.args.paths.now) (seats_of c.args.seats.now) (seat_of c.args.seat.now)) c.args.sources.now c.loop-source.source-index c.source-item.result c.loop-source.outputs.items c.push.new.self.items _
    c.loop-source-test.true c.source-item.is c.in_ok-push.ensures.items c.loop-source.invariant c.in_ok-output.ensures
