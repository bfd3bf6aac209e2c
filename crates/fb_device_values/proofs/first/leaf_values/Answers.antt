use Rattle.fb_device_values.proofs.Filled.{leaves_added}
use Rattle.fb_device_values.proofs.first.leaf_values.Goals as goal

pub loop-resource-preserved : goal.loop-resource-preserved
loop-resource-preserved c =
    leaves_added c.args.resources.now c.loop-resource.resource-index c.resource-item.result c.add_leaves.new.values.own.items c.add_leaves.new.values.issued.items c.loop-resource-test.true c.resource-item.is
    ((rw c.deref.ensures.value at c.in_ok-add_leaves.ensures) _ c.loop-resource.invariant)
