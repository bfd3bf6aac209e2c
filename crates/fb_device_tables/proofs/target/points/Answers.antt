use Rattle.fb_types_blocks.specs.Views.{names_of}
use Rattle.fb_device_tables.specs.Filling.{IsPointMade, seats_of}
use Rattle.fb_device_tables.proofs.Lists.{each_more}
use Rattle.fb_device_tables.proofs.target.points.Goals as goal

pub loop-target-preserved : goal.loop-target-preserved
loop-target-preserved c =
    each_more (IsPointMade (names_of c.args.paths.now) (seats_of c.args.seats.now)) c.args.targets.now c.loop-target.target-index c.target-item.result c.loop-target.points.items c.push.new.self.items _
    c.loop-target-test.true c.target-item.is c.in_ok-push.ensures.items c.loop-target.invariant c.point.ensures
