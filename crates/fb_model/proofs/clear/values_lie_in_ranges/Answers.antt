use Rattle.fb_model.proofs.Terms.{value_in_range}
use Rattle.fb_model.proofs.clear.values_lie_in_ranges.Goals as goal

pub returns : goal.returns
returns c = value_in_range
