use Rattle.fb_model_laws.proofs.Values.{all_fed}
use Rattle.fb_model_laws.proofs.leaf.inputs_take_their_types.Goals as goal

pub returns : goal.returns
returns c = all_fed
