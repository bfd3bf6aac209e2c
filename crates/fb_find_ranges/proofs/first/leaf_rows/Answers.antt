use Rattle.std.proofs.Common.{◌≡◌, ◌∙◌, map, ap}
use Rattle.std.proofs.lemmas.Result.{IfOk-weaker}
use Rattle.fb_find_ranges.specs.Lines.{lined, first_lined}
use Rattle.fb_find_ranges.specs.Views.{Shared, line_of, lined_in, shown}
use Rattle.fb_find_ranges.proofs.first.leaf_rows.Goals as goal

pub returns-clause-lined : goal.returns-clause-lined
returns-clause-lined c =
    let leaf = shown c.args.leaf.now in
    IfOk-weaker c.with_rows.result (λ (s : Shared). lined_in s ≡ lined leaf (map line_of c.in_ok-rows.rows.items)) (λ (s : Shared). lined_in s ≡ first_lined leaf) (λ s e. e ∙ ap (lined leaf) c.in_ok-rows.ensures) c.with_rows.ensures.lined
