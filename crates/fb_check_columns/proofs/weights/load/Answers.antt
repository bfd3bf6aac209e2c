use Rattle.std.proofs.Common.{◌≡◌, refl, ap, ◌∙◌}
use Rattle.fb_check_columns.specs.Reckoning.{weight_of, target_weight}
use Rattle.fb_check_columns.proofs.Values.{sum_step}
use Rattle.fb_check_columns.proofs.weights.load.Goals as goal

pub loop-target-preserved : goal.loop-target-preserved
loop-target-preserved c =
    let inv = c.loop-target.invariant in
    let column = c.args.column in
    let cert = c.args.certificate.now in
    let n : c.in_ok-next.next ≡ target_weight column cert c.target-item.result =
    c.in_ok-next.ensures.value ∙ ap (λ p. weight_of column cert p c.as_str-in-loop-target.result.now) c.as_str.ensures.value ∙ ap (weight_of column cert _) c.as_str-in-loop-target.ensures.value in
    (_, c.plus-sum.ensures inv.0 c.in_ok-next.next inv.1 refl, sum_step (target_weight column cert) c.args.targets.now c.loop-target.target-index c.target-item.result c.loop-target-test.true c.target-item.is inv.0 c.in_ok-next.next _ n inv.2)
