use Rattle.fb_model.proofs.Sound.{algorithms_keep}
use Rattle.fb_model.proofs.clear.clear_algorithms_keep.Goals as goal

pub returns : goal.returns
returns c = algorithms_keep
