use Rattle.fb_model_laws.proofs.Staying as laws
use Rattle.fb_model_laws.proofs.asked.what_is_asked_is_enough.Goals as goal

pub returns : goal.returns
returns c = laws.nothing_leaves
