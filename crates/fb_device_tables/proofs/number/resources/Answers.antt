use Rattle.fb_device_tables.specs.Filling.{IsResourceMade}
use Rattle.fb_device_tables.proofs.Lists.{each_more}
use Rattle.fb_device_tables.proofs.number.resources.Goals as goal

pub loop-source-preserved : goal.loop-source-preserved
loop-source-preserved c =
    each_more (IsResourceMade c.args.certificate.now c.args.device.now) c.args.sources.now c.loop-source.source-index c.source-item.result c.loop-source.resources.items c.push.new.self.items _
    c.loop-source-test.true c.source-item.is c.in_ok-push.ensures.items c.loop-source.invariant c.in_ok-resource.ensures
