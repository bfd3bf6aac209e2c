use Rattle.fb_model_worlds.proofs.Running.{once_run}
use Rattle.fb_model_worlds.proofs.deliveries_are_once.Goals as goal

pub returns : goal.returns
returns c = λ system cert hold first new events answers f r. once_run system cert hold events answers first new f r
