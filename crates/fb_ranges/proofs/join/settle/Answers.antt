use Rattle.std.proofs.Common.{◌∙◌}
use Rattle.std.proofs.lemmas.Result.{IfOk-weaker}
use Rattle.fb_ranges.specs.Settling.{held}
use Rattle.fb_ranges.specs.Views.{spans_of}
use Rattle.fb_ranges.proofs.Blocks.{on_ok}
use Rattle.fb_ranges.proofs.Settling.{held_hold, named_ask, named_kept, named_reset}
use Rattle.fb_ranges.proofs.join.settle.Goals as goal

pub returns-clause-asks : goal.returns-clause-asks
returns-clause-asks c =
    let rows = spans_of c.args.rows.now in
    let asked = spans_of c.args.asked.now in
    on_ok c.settle_all.result _ _ (λ h. h ∙ named_ask c.args.names.now c.args.settled rows (spans_of c.args.ranges.now) c.requires (held rows asked) (held_hold rows asked)) c.settle_all.ensures.asks

pub returns-clause-kept : goal.returns-clause-kept
returns-clause-kept c =
    IfOk-weaker c.settle_all.result _ _ (λ kept h. h ∙ named_kept c.args.names.now c.args.settled (spans_of c.args.rows.now) (spans_of c.args.ranges.now) c.requires) c.settle_all.ensures.kept

pub returns-clause-rest : goal.returns-clause-rest
returns-clause-rest c =
    on_ok c.settle_all.result _ _ (λ h. h ∙ named_reset c.args.names.now c.args.settled (spans_of c.args.rows.now) (spans_of c.args.ranges.now) c.requires) c.settle_all.ensures.rest
