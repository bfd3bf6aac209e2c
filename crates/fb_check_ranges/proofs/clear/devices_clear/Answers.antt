use Rattle.std.proofs.lemmas.Result.{err_from_is_err_and}
use Rattle.fb_cert.specs.Views.{certificate_of}
use Rattle.fb_check_ranges.specs.Tables.{DeviceRefused}
use Rattle.fb_check_ranges.proofs.Lists.{any_at}
use Rattle.fb_check_ranges.proofs.clear.devices_clear.Goals as goal

pub returns-in_err-device_clear-clause-refused : goal.returns-in_err-device_clear-clause-refused
returns-in_err-device_clear-clause-refused c =
    let f = c.in_err-device_clear.field-0.0 in
    let p = err_from_is_err_and c.from_residual.result c.from_residual.ensures.1 in
    rw (p.1, p.2) (any_at (DeviceRefused (certificate_of c.args.certificate.now).ranges f) c.args.devices.now c.loop-device.device-index c.device-item.result c.loop-device-test.true c.device-item.is c.in_err-device_clear.ensures.refused)
