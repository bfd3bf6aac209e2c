use Rattle.std.proofs.Common.{inr, arith, rules}
use Rattle.fb_check_rows.specs.Depths.{depth_of}
use Rattle.fb_check_rows.proofs.Beginning.{left_on, too_many, all_left}
use Rattle.fb_check_rows.proofs.begin.begins_fit.Goals as goal

pub returns-then-places-left-clause-refused : goal.returns-then-places-left-clause-refused
returns-then-places-left-clause-refused c = (
  search rules,
  inr
      (too_many c.args.certificate.now c.args.resource.now.leaves.items c.deref-leaf-items.result.now c.loop-leaf.leaf-index c.leaf-item.result c.in_ok-places.places c.loop-leaf.left (depth_of c.args.certificate.now c.args.resource.now) c.deref-leaf-items.ensures.value
      c.loop-leaf.invariant c.loop-leaf-test.true c.leaf-item.is c.in_ok-places.ensures.value (omega (arith, c.if-places-left.true))),
)

pub loop-leaf-preserved : goal.loop-leaf-preserved
loop-leaf-preserved c =
    left_on c.args.certificate.now c.args.resource.now.leaves.items c.deref-leaf-items.result.now c.loop-leaf.leaf-index c.leaf-item.result c.in_ok-places.places c.loop-leaf.left _ (depth_of c.args.certificate.now c.args.resource.now) c.deref-leaf-items.ensures.value
    c.loop-leaf.invariant c.loop-leaf-test.true c.leaf-item.is c.in_ok-places.ensures.value (omega (arith, c.if-places-left.false)) (search rules)

pub returns-clause-fits : goal.returns-clause-fits
returns-clause-fits c =
    all_left c.args.certificate.now c.args.resource.now.leaves.items c.deref-leaf-items.result.now c.loop-leaf.leaf-index c.loop-leaf.left (depth_of c.args.certificate.now c.args.resource.now) c.deref-leaf-items.ensures.value (search rules) c.loop-leaf.invariant
