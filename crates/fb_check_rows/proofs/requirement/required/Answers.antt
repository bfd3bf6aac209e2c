use Rattle.fb_types_blocks.specs.Views.{names_of}
use Rattle.fb_check_rows.specs.Texts.{device_texts}
use Rattle.fb_check_rows.proofs.Members.{next_items, rest_of}
use Rattle.fb_check_rows.proofs.requirement.required.Goals as goal

pub loop-device-preserved : goal.loop-device-preserved
loop-device-preserved c =
    let xs = c.args.flat.now.devices.items in
    let k = c.loop-device.device-index in
    next_items (device_texts c.args.kind) xs k c.device-item.result (names_of c.loop-device.rows) (names_of c.require_device.new.rows) _
    (rest_of xs k c.device-item.result (rw c.deref-device-items.ensures.value at c.loop-device-test.true) (rw c.deref-device-items.ensures.value at c.device-item.is)) c.in_ok-require_device.ensures.rows c.loop-device.invariant
