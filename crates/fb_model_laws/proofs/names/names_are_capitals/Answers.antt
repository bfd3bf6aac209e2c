use Rattle.fb_model_laws.proofs.Systems.{capital}
use Rattle.fb_model_laws.proofs.names.names_are_capitals.Goals as goal

pub returns : goal.returns
returns c = capital
