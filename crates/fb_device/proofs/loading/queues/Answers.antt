use Rattle.fb_device.proofs.Beginning.{empty_taken}
use Rattle.fb_device.proofs.loading.queues.Goals as goal

pub loop-resource-preserved : goal.loop-resource-preserved
loop-resource-preserved c =
    empty_taken c.args.resources.now c.loop-resource.queues.items c.push.new.self.items c.loop-resource.resource-index c.resource-item.result c.in_ok-new.field-0 c.loop-resource-test.true c.resource-item.is c.loop-resource.invariant c.in_ok-new.ensures.empty
    c.in_ok-new.ensures.sound c.in_ok-push.ensures.items
