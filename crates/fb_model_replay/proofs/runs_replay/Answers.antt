use Rattle.fb_model_replay.proofs.Running.{run_once}
use Rattle.fb_model_replay.proofs.runs_replay.Goals as goal

pub returns : goal.returns
returns c = λ cert device old new other events answers replies r s. run_once cert device events answers replies old new other r s
