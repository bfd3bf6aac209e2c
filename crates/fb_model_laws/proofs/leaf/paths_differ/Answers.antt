use Rattle.fb_model_laws.proofs.Paths.{all_apart}
use Rattle.fb_model_laws.proofs.leaf.paths_differ.Goals as goal

pub returns : goal.returns
returns c = all_apart
