use Rattle.fb_model_laws.proofs.Leaves as laws
use Rattle.fb_model_laws.proofs.clarity.clear_systems_lie.Goals as goal

pub returns : goal.returns
returns c = laws.clear_systems_lie
