use Rattle.std.proofs.Common.{refl}
use Rattle.fb_check_columns.specs.Reckoning.{acted}
use Rattle.fb_check_columns.proofs.Values.{sum_step}
use Rattle.fb_check_columns.proofs.chart.own.Goals as goal

pub loop-action-preserved : goal.loop-action-preserved
loop-action-preserved c =
    λ ns h.
    let inv = c.loop-action.invariant ns h in
    let f = acted c.args.block.now ns in
    (_, c.plus-sum.ensures inv.0 (f c.action-item.result) inv.1 (c.acted.ensures ns h), sum_step f c.args.actions.now c.loop-action.action-index c.action-item.result c.loop-action-test.true c.action-item.is inv.0 (f c.action-item.result) _ refl inv.2)
