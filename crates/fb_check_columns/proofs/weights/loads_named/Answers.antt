use Rattle.std.proofs.Common.{Bor}
use Rattle.fb_model.specs.Names.{Name}
use Rattle.fb_check_columns.specs.Reckoning.{load_at}
use Rattle.fb_check_columns.proofs.Values.{sum_image}
use Rattle.fb_check_columns.proofs.weights.loads_named.Goals as goal

pub loop-name-preserved : goal.loop-name-preserved
loop-name-preserved c =
    let inv = c.loop-name.invariant in
    (_, c.plus-sum.ensures inv.0 _ inv.1 c.in_ok-next.ensures.value, sum_image (load_at c.args.column c.args.certificate.now c.args.outputs.now) (λ (n : Bor Name). n.now) c.args.names.now c.loop-name.name-index _ c.loop-name-test.true inv.0 _ inv.2)
