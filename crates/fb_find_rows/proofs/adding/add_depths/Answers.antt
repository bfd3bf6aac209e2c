use Rattle.std.proofs.lemmas.Result.{err_from_is_err_and}
use Rattle.fb_cert.specs.Views.{certificate_of, rows_of}
use Rattle.fb_find_rows.specs.Needs.{all_rows}
use Rattle.fb_model.specs.Finding.{IsPastAmong}
use Rattle.fb_find_rows.proofs.QueueRows.{next_device, past_device}
use Rattle.fb_find_rows.proofs.adding.add_depths.Goals as goal

pub returns-in_err-add_device-clause-refused : goal.returns-in_err-add_device-clause-refused
returns-in_err-add_device-clause-refused c = λ ds are fresh.
    let p = err_from_is_err_and c.from_residual.result c.from_residual.ensures.1 in
    rw (p.1, p.2)
    (past_device (rows_of c.args.certificate.now) (rows_of c.loop-device.certificate) (λ t. IsPastAmong (certificate_of c.args.certificate.now) t ds) c.args.flat.now.devices.items c.deref-device-items.result.now ds
    (all_rows (certificate_of c.args.certificate.now) c.args.flat.now.devices.items ds) c.loop-device.device-index c.device-item.result c.deref-device-items.ensures.value c.loop-device-test.true c.device-item.is (c.loop-device.invariant ds are fresh)
    c.in_err-add_device.field-0.0 c.in_err-add_device.ensures.refused)

pub loop-device-preserved : goal.loop-device-preserved
loop-device-preserved c = λ ds are fresh.
    next_device (rows_of c.args.certificate.now) (rows_of c.loop-device.certificate) (λ t. IsPastAmong (certificate_of c.args.certificate.now) t ds) c.args.flat.now.devices.items c.deref-device-items.result.now ds
    (all_rows (certificate_of c.args.certificate.now) c.args.flat.now.devices.items ds) c.loop-device.device-index c.device-item.result c.deref-device-items.ensures.value c.loop-device-test.true c.device-item.is (c.loop-device.invariant ds are fresh)
    (rows_of c.add_device.new.certificate) c.in_ok-add_device.ensures.rows
