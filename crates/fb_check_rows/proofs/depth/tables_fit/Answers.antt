use Rattle.std.specs.List.{Any}
use Rattle.std.proofs.lemmas.Result.{err_from_is_err_and}
use Rattle.fb_check_rows.specs.Depths.{IsDepthFault}
use Rattle.fb_check_rows.proofs.Loops.{any_in}
use Rattle.fb_check_rows.proofs.depth.tables_fit.Goals as goal

pub returns-in_err-device_fits-clause-refused : goal.returns-in_err-device_fits-clause-refused
returns-in_err-device_fits-clause-refused c =
    let f = c.in_err-device_fits.field-0.0 in
    let p = err_from_is_err_and c.from_residual.result c.from_residual.ensures.1 in
    rw (p.1, p.2) (any_in (λ d. Any (λ r. IsDepthFault c.args.certificate.now r f) d.resources.items) c.args.flat.now.devices.items c.deref-device-items.result.now c.loop-device.device-index c.device-item.result c.deref-device-items.ensures.value c.loop-device-test.true c.device-item.is c.in_err-device_fits.ensures.refused)
