use Rattle.std.proofs.Common.{ap₂}
use Rattle.fb_ranges.specs.Views.{keys_of, spans_in}
use Rattle.fb_ranges.proofs.Likening.{same_items}
use Rattle.fb_ranges.proofs.join.copied.Goals as goal

pub returns : goal.returns
returns c = ap₂ (λ s rs. spans_in (keys_of s) rs) c.in_ok-clone.ensures.cases (same_items c.args.ranges.now.rows.items c.in_ok-clone-2.field-0.items c.in_ok-clone-2.ensures.cases.0)
