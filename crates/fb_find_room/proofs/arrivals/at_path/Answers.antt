use Rattle.std.proofs.Common.{◌≤◌, ◌+◌, sym, subst, arith}
use Rattle.fb_find_room.proofs.Reckoning.{AreCountedAt, devices_on, devices_last, top}
use Rattle.fb_find_room.proofs.arrivals.at_path.Goals as goal

pub loop-device-preserved : goal.loop-device-preserved
loop-device-preserved c =
    let small : c.saturating_add-places.result ≤ top = omega (arith, c.saturating_add-places.ensures) in (
      small,
      subst (AreCountedAt c.args.certificate.now c.args.path.now c.args.flat.now.devices.items (c.loop-device.device-index + 1)) (sym c.saturating_add-places.ensures)
          (devices_on c.args.certificate.now c.args.path.now c.args.flat.now.devices.items c.deref-device-items.result.now c.loop-device.device-index c.device-item.result c.loop-device.places c.in_ok-at_device.field-0 c.deref-device-items.ensures.value
          c.loop-device.invariant.1 c.loop-device-test.true c.device-item.is c.in_ok-at_device.ensures),
    )

pub returns : goal.returns
returns c =
    devices_last c.args.certificate.now c.args.path.now c.args.flat.now.devices.items c.deref-device-items.result.now c.loop-device.device-index c.loop-device.places c.deref-device-items.ensures.value c.loop-device-test.false c.loop-device.invariant.0
    c.loop-device.invariant.1
