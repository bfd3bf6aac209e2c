use Rattle.fb_model_replay.proofs.Differing.{two_reasons, two_values}
use Rattle.fb_model_replay.proofs.denials_may_differ.Goals as goal

pub returns-clause-reasons : goal.returns-clause-reasons
returns-clause-reasons c = two_reasons

pub returns-clause-values : goal.returns-clause-values
returns-clause-values c = two_values
