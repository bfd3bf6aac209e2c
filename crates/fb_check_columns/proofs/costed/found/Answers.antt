use Rattle.std.proofs.Common.{ℕ, List, Option, refl, sym, subst, ◌∙◌}
use Rattle.fb_model.specs.System.{Block}
use Rattle.fb_model.specs.Clear.{Spans}
use Rattle.fb_ranges.specs.Views.{spans_of}
use Rattle.fb_types_blocks.specs.Views.{block_of}
use Rattle.fb_check_columns.specs.Sharing.{HasCosts, IsCosted}
use Rattle.fb_lists.proofs.Lists.{all_here}
use Rattle.fb_check_columns.proofs.costed.found.Goals as goal

pub returns-then-are_alike : goal.returns-then-are_alike
returns-then-are_alike c =
    let e = c.costed-item.result in
    let block = block_of c.args.block.now.value in
    let has = all_here IsCosted c.args.known.now c.loop-costed.costed-index e c.requires c.loop-costed-test.true (sym c.costed-item.is) in
    subst (λ (costs : List (Option ℕ)). HasCosts (spans_of c.args.rows.now) block costs) (sym (c.in_ok-from_slice.ensures.items ∙ c.as_slice.ensures.value))
    (subst (λ (s : Spans). HasCosts s block e.costs.items) (c.if-are_alike.ensures.rows refl) (subst (λ (b : Block). HasCosts (spans_of e.rows) b e.costs.items) (c.if-are_alike.ensures.block refl) has))
