use Rattle.fb_model_laws.proofs.Closed.{all_charts_closed}
use Rattle.fb_model_laws.proofs.leaf.charts_are_closed.Goals as goal

pub returns : goal.returns
returns c = all_charts_closed
