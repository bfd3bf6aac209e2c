use Rattle.std.proofs.lemmas.Result.{err_from_is_err_and}
use Rattle.fb_check_columns.specs.Tables.{ResourceFails}
use Rattle.fb_check_columns.proofs.Loops.{any_at}
use Rattle.fb_check_columns.proofs.pays.resources_pay.Goals as goal

pub returns-in_err-leaves_pay-clause-refused : goal.returns-in_err-leaves_pay-clause-refused
returns-in_err-leaves_pay-clause-refused c =
    let f = c.in_err-leaves_pay.field-0.0 in
    let p = err_from_is_err_and c.from_residual.result c.from_residual.ensures.1 in
    rw (p.1, p.2) (any_at (ResourceFails c.args.column c.args.certificate.now f) c.args.resources.now c.loop-resource.resource-index c.resource-item.result c.loop-resource-test.true c.resource-item.is (rw c.as_slice-leaves.ensures.value at c.in_err-leaves_pay.ensures.refused))
