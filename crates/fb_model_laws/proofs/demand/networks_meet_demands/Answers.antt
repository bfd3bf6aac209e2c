use Rattle.fb_model_laws.proofs.Networks.{far_meets}
use Rattle.fb_model_laws.proofs.demand.networks_meet_demands.Goals as goal

pub returns : goal.returns
returns c = far_meets
