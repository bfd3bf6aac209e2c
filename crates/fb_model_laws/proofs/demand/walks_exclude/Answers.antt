use Rattle.fb_model_laws.proofs.Walks.{walks_exclude}
use Rattle.fb_model_laws.proofs.demand.walks_exclude.Goals as goal

pub returns : goal.returns
returns c = walks_exclude
