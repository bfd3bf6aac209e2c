use Rattle.std.proofs.Common.{inr}
use Rattle.std.proofs.lemmas.Result.{err_from_is_err_and}
use Rattle.fb_tree.specs.Files as tree
use Rattle.fb_types_blocks.specs.Answers.{names_in_map}
use Rattle.fb_model.specs.BlockFaults.{IsActionFault}
use Rattle.fb_types_blocks.proofs.Refused.{any_at}
use Rattle.fb_types_blocks.proofs.chart.actions.Goals as goal

pub returns-in_err-action-clause-refused : goal.returns-in_err-action-clause-refused
returns-in_err-action-clause-refused c =
    let f = c.in_err-action.field-0.0 in
    let p = err_from_is_err_and c.from_residual.result c.from_residual.ensures.1 in
    rw (p.1, p.2) (inr (any_at (λ a. IsActionFault (names_in_map c.args.algorithms.now) (names_in_map c.args.outputs.now) a f) tree.action_of c.args.sources.now c.loop-source.source-index c.source-item.result c.loop-source-test.true c.source-item.is c.in_err-action.ensures.refused))
