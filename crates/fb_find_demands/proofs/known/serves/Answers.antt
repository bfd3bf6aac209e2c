use Rattle.std.proofs.Common.{Some, ap, ap₂, ◌∙◌}
use Rattle.fb_model.specs.System.{Block}
use Rattle.fb_find_demands.specs.Prices.{prices}
use Rattle.fb_find_demands.proofs.known.serves.Goals as goal

pub returns : goal.returns
returns c t k = k ∙ ap₂ (λ spans ps. prices (Some spans) ps) (c.are_alike.ensures.rows t) (ap (λ (b : Block). b.procedures) (c.are_alike.ensures.block t))
