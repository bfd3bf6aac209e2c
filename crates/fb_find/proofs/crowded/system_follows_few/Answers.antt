use Rattle.std.proofs.Common.{◌≤◌, string_bytes}
use Rattle.std.specs.List.{AllByRecursion, Any}
use Rattle.std.proofs.lemmas.Result.{err_from_is_err_and}
use Rattle.fb_model.specs.Wires.{most_followed, resource_count}
use Rattle.fb_types.specs.Views.{resource_of}
use Rattle.fb_types.specs.declared.typed.Device.{Device}
use Rattle.fb_check_rows.proofs.Loops.{all_in}
use Rattle.fb_find.specs.Crowds.{IsCrowded}
use Rattle.fb_find.proofs.Crowding.{past_any}
use Rattle.fb_find.proofs.crowded.system_follows_few.Goals as goal

pub returns-in_err-device_follows_few-clause-refused : goal.returns-in_err-device_follows_few-clause-refused
returns-in_err-device_follows_few-clause-refused c =
    let p = err_from_is_err_and c.from_residual.result c.from_residual.ensures.1 in
    rw (p.1, p.2)
    (past_any (λ t (d : Device). Any (IsCrowded (string_bytes d.name) t) d.resources.items) c.args.typed.now.devices.items c.deref-device-items.result.now c.loop-device.device-index c.device-item.result c.deref-device-items.ensures.value c.loop-device-test.true c.device-item.is
    c.in_err-device_follows_few.field-0.0 c.in_err-device_follows_few.ensures.refused)

pub loop-device-preserved : goal.loop-device-preserved
loop-device-preserved c =
    all_in (λ (d : Device). AllByRecursion (λ r. resource_count (resource_of r) ≤ most_followed) d.resources.items) c.args.typed.now.devices.items c.deref-device-items.result.now c.loop-device.device-index c.device-item.result c.deref-device-items.ensures.value c.loop-device-test.true
    c.device-item.is c.in_ok-device_follows_few.ensures.few c.loop-device.invariant
