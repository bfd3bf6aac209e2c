use Rattle.std.proofs.lemmas.Result.{err_from_is_err_and}
use Rattle.fb_check_columns.specs.Tables.{LeafPays, LeafFails}
use Rattle.fb_check_columns.proofs.Loops.{all_on, any_at}
use Rattle.fb_check_columns.proofs.pays.leaves_pay.Goals as goal

pub returns-in_err-leaf_pays-clause-refused : goal.returns-in_err-leaf_pays-clause-refused
returns-in_err-leaf_pays-clause-refused c =
    let f = c.in_err-leaf_pays.field-0.0 in
    let p = err_from_is_err_and c.from_residual.result c.from_residual.ensures.1 in
    rw (p.1, p.2) (any_at (LeafFails c.args.column c.args.certificate.now f) c.args.leaves.now c.loop-leaf.leaf-index c.leaf-item.result c.loop-leaf-test.true c.leaf-item.is c.in_err-leaf_pays.ensures.refused)

pub loop-leaf-preserved : goal.loop-leaf-preserved
loop-leaf-preserved c =
    record {
      pay =
          all_on (LeafPays c.args.column c.args.certificate.now) c.args.leaves.now c.loop-leaf.leaf-index c.leaf-item.result c.loop-leaf-test.true c.leaf-item.is
          (λ leaf small is known. c.in_ok-leaf_pays.ensures.pays leaf small is known) c.loop-leaf.invariant.pay;
      known = c.in_ok-leaf_pays.ensures.known;
    }
