use Rattle.fb_device_values.proofs.Filled.{filled_next}
use Rattle.fb_device_values.proofs.first.add_leaves.Goals as goal

pub loop-leaf-preserved : goal.loop-leaf-preserved
loop-leaf-preserved c =
    λ before h.
    filled_next before c.args.leaves.now c.loop-leaf.leaf-index c.leaf-item.result c.loop-leaf.values.own.items c.loop-leaf.values.issued.items c.push.new.self.items c.push-in-loop-leaf.new.self.items c.in_ok-own_values.field-0 c.in_ok-issued_values.field-0
    c.loop-leaf-test.true c.leaf-item.is c.in_ok-push.ensures.items c.in_ok-push-2.ensures.items (c.loop-leaf.invariant before h) (record { own = c.in_ok-own_values.ensures; issued = c.in_ok-issued_values.ensures })
