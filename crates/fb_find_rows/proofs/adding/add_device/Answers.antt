use Rattle.std.proofs.Common.{◌∷◌, []}
use Rattle.std.proofs.lemmas.Result.{err_from_is_err_and}
use Rattle.fb_cert.specs.Views.{certificate_of, rows_of}
use Rattle.fb_find_rows.specs.Needs.{device_rows}
use Rattle.fb_model.specs.Finding.{IsPastIn}
use Rattle.fb_find_rows.proofs.QueueRows.{next_resource, past_resource}
use Rattle.fb_find_rows.proofs.adding.add_device.Goals as goal

pub returns-in_err-add_resource-clause-refused : goal.returns-in_err-add_resource-clause-refused
returns-in_err-add_resource-clause-refused c = λ d is fresh.
    let p = err_from_is_err_and c.from_residual.result c.from_residual.ensures.1 in
    rw (p.1, p.2)
    (past_resource (rows_of c.args.certificate.now) (rows_of c.loop-resource.certificate) (λ t. IsPastIn (certificate_of c.args.certificate.now) t 0 (d.name ∷ []) d.resources) (d.name ∷ []) c.args.device.now.resources.items c.deref-resource-items.result.now d.resources
    (device_rows (certificate_of c.args.certificate.now) c.args.device.now d) c.loop-resource.resource-index c.resource-item.result c.deref-resource-items.ensures.value c.loop-resource-test.true c.resource-item.is (c.loop-resource.invariant d is fresh)
    c.in_err-add_resource.field-0.0 c.in_err-add_resource.ensures.refused)

pub loop-resource-preserved : goal.loop-resource-preserved
loop-resource-preserved c = λ d is fresh.
    next_resource (rows_of c.args.certificate.now) (rows_of c.loop-resource.certificate) (λ t. IsPastIn (certificate_of c.args.certificate.now) t 0 (d.name ∷ []) d.resources) (d.name ∷ []) c.args.device.now.resources.items c.deref-resource-items.result.now d.resources
    (device_rows (certificate_of c.args.certificate.now) c.args.device.now d) c.loop-resource.resource-index c.resource-item.result c.deref-resource-items.ensures.value c.loop-resource-test.true c.resource-item.is (c.loop-resource.invariant d is fresh)
    (rows_of c.add_resource.new.certificate) c.in_ok-add_resource.ensures.rows
