use Rattle.fb_model_lengths.proofs.Texts.{as_long}
use Rattle.fb_model_lengths.proofs.texts_are_as_long.Goals as goal

pub returns : goal.returns
returns c = as_long
