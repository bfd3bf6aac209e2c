use Rattle.fb_device_tables.specs.Filling.{IsActionMade}
use Rattle.fb_device_tables.proofs.Lists.{each_more}
use Rattle.fb_device_tables.proofs.state.actions.Goals as goal

pub loop-source-preserved : goal.loop-source-preserved
loop-source-preserved c =
    each_more (IsActionMade c.args.block.now) c.args.sources.now c.loop-source.source-index c.source-item.result c.loop-source.actions.items c.push.new.self.items _
    c.loop-source-test.true c.source-item.is c.in_ok-push.ensures.items c.loop-source.invariant c.action.ensures
