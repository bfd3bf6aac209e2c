use Rattle.std.proofs.Common.{◌+◌, sym, subst}
use Rattle.fb_find_rows.proofs.Needing.{AreReckoned, reckoned_on, reckoned_last}
use Rattle.fb_find_rows.proofs.need.needed.Goals as goal

pub loop-leaf-preserved : goal.loop-leaf-preserved
loop-leaf-preserved c =
    subst (λ m. AreReckoned c.args.certificate.now c.args.resource.now.leaves.items (c.loop-leaf.leaf-index + 1) m c.saturating_add-begins.result) (sym c.max-most.ensures)
    (reckoned_on c.args.certificate.now c.args.resource.now.leaves.items c.deref-leaf-items.result.now c.loop-leaf.leaf-index c.leaf-item.result c.loop-leaf.most c.loop-leaf.begins c.in_ok-arrival.field-0 c.in_ok-begin.field-0 c.saturating_add-begins.result
    c.deref-leaf-items.ensures.value c.loop-leaf.invariant c.loop-leaf-test.true c.leaf-item.is c.in_ok-arrival.ensures c.in_ok-begin.ensures c.saturating_add-begins.ensures)

pub returns : goal.returns
returns c =
    reckoned_last c.args.certificate.now c.args.resource.now.leaves.items c.deref-leaf-items.result.now c.loop-leaf.leaf-index c.loop-leaf.most c.loop-leaf.begins c.max.result c.deref-leaf-items.ensures.value c.loop-leaf-test.false c.max.ensures c.max.type_inv
    c.loop-leaf.invariant
