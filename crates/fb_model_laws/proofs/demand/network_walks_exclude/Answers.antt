use Rattle.fb_model_laws.proofs.Networks.{networks_exclude}
use Rattle.fb_model_laws.proofs.demand.network_walks_exclude.Goals as goal

pub returns : goal.returns
returns c = networks_exclude
