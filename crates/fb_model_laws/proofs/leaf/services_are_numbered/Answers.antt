use Rattle.fb_model_laws.proofs.Numbered.{all_numbered}
use Rattle.fb_model_laws.proofs.leaf.services_are_numbered.Goals as goal

pub returns : goal.returns
returns c = all_numbered
