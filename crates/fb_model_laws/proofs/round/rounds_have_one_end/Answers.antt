use Rattle.fb_model_laws.proofs.Rounding.{one_end}
use Rattle.fb_model_laws.proofs.round.rounds_have_one_end.Goals as goal

pub returns : goal.returns
returns c = one_end
