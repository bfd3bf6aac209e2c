use Rattle.fb_model_laws.proofs.Few.{devices_few}
use Rattle.fb_model_laws.proofs.leaf.leaves_are_few.Goals as goal

pub returns : goal.returns
returns c = devices_few
