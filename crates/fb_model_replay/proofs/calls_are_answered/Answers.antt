use Rattle.fb_model_replay.proofs.Answering.{run_exists}
use Rattle.fb_model_replay.proofs.calls_are_answered.Goals as goal

pub returns : goal.returns
returns c = λ device cert holding old sound events calls. run_exists cert device holding events calls old sound
