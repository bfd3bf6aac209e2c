use Rattle.fb_cert.specs.Views.{certificate_of}
use Rattle.fb_model_texts.proofs.Small.{small}
use Rattle.fb_check_columns.proofs.Composed.{all_pay, one_fails}
use Rattle.fb_check_columns.proofs.pays.column_pays.Goals as goal

pub returns-clause-pays : goal.returns-clause-pays
returns-clause-pays c =
    let few = small c.stands_in_text.ensures.0 (certificate_of c.args.certificate.now) c.stands_in_text.ensures.1 in
    λ s a k. all_pay c.args.column c.args.certificate.now few c.args.flat.now.devices.items s c.devices_pay.result (rw c.as_slice.ensures.value at c.devices_pay.ensures.pays) a k

pub returns-clause-refused : goal.returns-clause-refused
returns-clause-refused c =
    let few = small c.stands_in_text.ensures.0 (certificate_of c.args.certificate.now) c.stands_in_text.ensures.1 in
    λ s a k. one_fails c.args.column c.args.certificate.now few c.args.flat.now.devices.items s c.devices_pay.result (rw c.as_slice.ensures.value at c.devices_pay.ensures.refused) a k
