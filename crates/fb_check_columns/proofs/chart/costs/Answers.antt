use Rattle.std.proofs.Common.{List, subst}
use Rattle.std.specs.List.{sum_by}
use Rattle.fb_types_blocks.specs.declared.typed.Action.{Action}
use Rattle.fb_types_blocks.proofs.Lists.{mapped_more}
use Rattle.fb_check_columns.specs.Sums.{IsSum}
use Rattle.fb_check_columns.specs.Reckoning.{NamedActions, acted, own_of}
use Rattle.fb_model.proofs.Lists.{got}
use Rattle.fb_check_columns.proofs.Values.{more_sums}
use Rattle.fb_check_columns.proofs.chart.costs.Goals as goal

pub loop-index-preserved : goal.loop-index-preserved
loop-index-preserved c =
    λ ns h.
    let k = c.args.block.now in
    let s : NamedActions = (c.in-Some.field-0-0.now, c.in-Some.actions.now) in
    let g = got c.args.states.now.entries c.loop-index.index s c.in-Some.ensures.entry in
    let cost : IsSum c.own.result (own_of k ns s) = subst (λ (xs : List Action). IsSum c.own.result (sum_by (acted k ns) xs)) c.as_slice.ensures.value (c.own.ensures ns h) in
    let e = mapped_more (own_of k ns) c.args.states.now.entries c.loop-index.index s g.0 g.1 in
    rw (e, c.in_ok-push.ensures.items) (more_sums _ _ _ _ (c.loop-index.invariant ns h) cost)
