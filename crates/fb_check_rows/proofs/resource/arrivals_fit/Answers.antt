use Rattle.std.proofs.Common.{inl, arith, rules}
use Rattle.fb_model.specs.Wires as wires
use Rattle.fb_flat.specs.Tables.{IsLeaf}
use Rattle.fb_check_rows.specs.Depths.{depth_of, Arrives, LeafArrives}
use Rattle.fb_check_rows.proofs.Loops.{all_in, any_in}
use Rattle.fb_check_rows.proofs.resource.arrivals_fit.Goals as goal

pub returns-then-branch-depth-clause-refused : goal.returns-then-branch-depth-clause-refused
returns-then-branch-depth-clause-refused c = (
  search rules,
  inl
      (any_in (λ l. (leaf : wires.Leaf) → IsLeaf l leaf → Arrives c.args.certificate.now (depth_of c.args.certificate.now c.args.resource.now) leaf → ⊥)
      c.args.resource.now.leaves.items c.deref-leaf-items.result.now c.loop-leaf.leaf-index c.leaf-item.result c.deref-leaf-items.ensures.value c.loop-leaf-test.true c.leaf-item.is
      (λ leaf is a. let most = (c.in_ok-arrival_places.ensures.value leaf is (depth_of c.args.certificate.now c.args.resource.now)).1 a in absurd (omega (arith, most, c.if-branch-depth.true, c.depth-depth.ensures)))),
)

pub loop-leaf-preserved : goal.loop-leaf-preserved
loop-leaf-preserved c =
    all_in (LeafArrives c.args.certificate.now c.depth-depth.result) c.args.resource.now.leaves.items c.deref-leaf-items.result.now c.loop-leaf.leaf-index c.leaf-item.result c.deref-leaf-items.ensures.value c.loop-leaf-test.true c.leaf-item.is
    (λ leaf is. (c.in_ok-arrival_places.ensures.value leaf is c.depth-depth.result).0 (search rules)) c.loop-leaf.invariant
