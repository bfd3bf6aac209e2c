use Rattle.std.proofs.Common.{◌*◌, ap₂, ◌∙◌, subst}
use Rattle.fb_check_columns.specs.Sums.{IsSum}
use Rattle.fb_check_columns.proofs.Hearing.{product}
use Rattle.fb_check_columns.proofs.channel.cost.Goals as goal

pub returns-clause-value : goal.returns-clause-value
returns-clause-value c =
    subst (IsSum c.checked_mul.result) (ap₂ ◌*◌ (c.from.ensures ∙ c.times.ensures) c.in_ok-far.ensures.value) (product c.checked_mul.result (c.from.result * c.in_ok-far.far) c.checked_mul.ensures)
