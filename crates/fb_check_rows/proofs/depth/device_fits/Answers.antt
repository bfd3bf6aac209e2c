use Rattle.std.proofs.lemmas.Result.{err_from_is_err_and}
use Rattle.fb_check_rows.specs.Depths.{IsDepthFault}
use Rattle.fb_check_rows.proofs.Loops.{any_in}
use Rattle.fb_check_rows.proofs.depth.device_fits.Goals as goal

pub returns-in_err-resource_fits-clause-refused : goal.returns-in_err-resource_fits-clause-refused
returns-in_err-resource_fits-clause-refused c =
    let f = c.in_err-resource_fits.field-0.0 in
    let p = err_from_is_err_and c.from_residual.result c.from_residual.ensures.1 in
    rw (p.1, p.2) (any_in (λ r. IsDepthFault c.args.certificate.now r f) c.args.device.now.resources.items c.deref-resource-items.result.now c.loop-resource.resource-index c.resource-item.result c.deref-resource-items.ensures.value c.loop-resource-test.true c.resource-item.is c.in_err-resource_fits.ensures.refused)
