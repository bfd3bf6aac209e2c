use Rattle.std.proofs.Common.{◌++◌, ◌∷◌, [], Some, ap, ◌∙◌}
use Rattle.fb_check_columns.proofs.Sharing.{one_zero_more}
use Rattle.fb_check_columns.proofs.costed.no_costs.Goals as goal

pub loop-preserved : goal.loop-preserved
loop-preserved c = c.in_ok-push.ensures.items ∙ ap (λ xs. xs ++ Some 0 ∷ []) c.loop.invariant ∙ one_zero_more c.loop.counter
