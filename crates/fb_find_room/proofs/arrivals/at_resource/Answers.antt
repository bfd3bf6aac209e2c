use Rattle.std.proofs.Common.{◌≤◌, ◌+◌, sym, subst, arith}
use Rattle.fb_find_room.proofs.Reckoning.{AreCounted, counted_on, counted_last, top}
use Rattle.fb_find_room.proofs.arrivals.at_resource.Goals as goal

pub loop-leaf-preserved : goal.loop-leaf-preserved
loop-leaf-preserved c =
    let small : c.saturating_add-places.result ≤ top = omega (arith, c.saturating_add-places.ensures) in (
      small,
      subst (AreCounted c.args.certificate.now c.args.resource.now.leaves.items (c.loop-leaf.leaf-index + 1)) (sym c.saturating_add-places.ensures)
          (counted_on c.args.certificate.now c.args.resource.now.leaves.items c.deref-leaf-items.result.now c.loop-leaf.leaf-index c.leaf-item.result c.loop-leaf.places c.in-Ok.more c.deref-leaf-items.ensures.value c.loop-leaf.invariant.1
          c.loop-leaf-test.true c.leaf-item.is (c.in-Ok.ensures.value)),
    )

pub returns : goal.returns
returns c =
    counted_last c.args.certificate.now c.args.resource.now.leaves.items c.deref-leaf-items.result.now c.loop-leaf.leaf-index c.loop-leaf.places c.deref-leaf-items.ensures.value c.loop-leaf-test.false c.loop-leaf.invariant.0 c.loop-leaf.invariant.1
