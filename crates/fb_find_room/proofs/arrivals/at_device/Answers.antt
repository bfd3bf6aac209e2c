use Rattle.std.proofs.Common.{◌≡◌, ◌≤◌, ◌+◌, ◌∙◌, true, false, min, sym, subst, arith, string_bytes}
use Rattle.std.specs.Str.{bytes_eq}
use Rattle.fb_find_room.proofs.Reckoning.{AreCountedIn, device_on, device_over, device_last, top}
use Rattle.fb_find_room.proofs.arrivals.at_device.Goals.{then-eq+in_ok-at_resource, else-eq}
use Rattle.fb_find_room.proofs.arrivals.at_device.Goals as goal

pub loop-resource-preserved : goal.loop-resource-preserved
loop-resource-preserved c =
    let cert = c.args.certificate.now in
    let path = c.args.path.now in
    let same = c.deref-resource-items.ensures.value in
    let so = c.loop-resource.invariant.1 in
    let k = c.loop-resource.resource-index in
    elim c.if-eq.branch [
      | then-eq+in_ok-at_resource w ↦
          (let is : bytes_eq (string_bytes c.resource-item.result.path) path ≡ true = subst (λ t. bytes_eq t path ≡ true) c.as_str.ensures.value (sym w.if-eq.ensures) in
          let n = min (c.loop-resource.places + w.in_ok-at_resource.field-0) top in
          let small : n ≤ top = omega arith in
          subst (λ m. (m ≤ top) × AreCountedIn cert path c.args.device.now (k + 1) m) (sym (w.places-is ∙ w.saturating_add-places.ensures)) (
            small,
            device_on cert path c.args.device.now c.deref-resource-items.result.now k c.resource-item.result c.loop-resource.places same so c.loop-resource-test.true c.resource-item.is is w.in_ok-at_resource.field-0 w.in_ok-at_resource.ensures,
          ))
      | else-eq w ↦
          (let is : bytes_eq (string_bytes c.resource-item.result.path) path ≡ false = subst (λ t. bytes_eq t path ≡ false) c.as_str.ensures.value (sym w.if-eq.ensures) in
          subst (λ m. (m ≤ top) × AreCountedIn cert path c.args.device.now (k + 1) m) (sym w.places-is) (
            c.loop-resource.invariant.0,
            device_over cert path c.args.device.now c.deref-resource-items.result.now k c.resource-item.result c.loop-resource.places same so c.loop-resource-test.true c.resource-item.is is c.loop-resource.invariant.0,
          ))
    ]

pub returns : goal.returns
returns c =
    device_last c.args.certificate.now c.args.path.now c.args.device.now c.deref-resource-items.result.now c.loop-resource.resource-index c.loop-resource.places c.deref-resource-items.ensures.value c.loop-resource-test.false c.loop-resource.invariant.0
    c.loop-resource.invariant.1
