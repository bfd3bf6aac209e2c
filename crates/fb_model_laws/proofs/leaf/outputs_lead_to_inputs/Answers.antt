use Rattle.fb_model_laws.proofs.Wired.{all_wired}
use Rattle.fb_model_laws.proofs.leaf.outputs_lead_to_inputs.Goals as goal

pub returns : goal.returns
returns c = all_wired
