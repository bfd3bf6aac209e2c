use Rattle.fb_model_causes.proofs.Bounding.{has_arrivals}
use Rattle.fb_model_causes.proofs.roots_are_arrivals.Goals as goal

pub returns : goal.returns
returns c = λ system cert hold first new events answers f run. has_arrivals system cert hold first f events answers new run
