use Rattle.std.proofs.lemmas.Result.{err_from_is_err_and}
use Rattle.fb_check_columns.specs.Tables.{DeviceFails}
use Rattle.fb_check_columns.proofs.Loops.{any_at}
use Rattle.fb_check_columns.proofs.pays.devices_pay.Goals as goal

pub returns-in_err-resources_pay-clause-refused : goal.returns-in_err-resources_pay-clause-refused
returns-in_err-resources_pay-clause-refused c =
    let f = c.in_err-resources_pay.field-0.0 in
    let p = err_from_is_err_and c.from_residual.result c.from_residual.ensures.1 in
    rw (p.1, p.2) (any_at (DeviceFails c.args.column c.args.certificate.now f) c.args.devices.now c.loop-device.device-index c.device-item.result c.loop-device-test.true c.device-item.is (rw c.as_slice-resources.ensures.value at c.in_err-resources_pay.ensures.refused))
