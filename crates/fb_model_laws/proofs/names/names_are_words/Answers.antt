use Rattle.fb_model_laws.proofs.Systems.{wordy}
use Rattle.fb_model_laws.proofs.names.names_are_words.Goals as goal

pub returns : goal.returns
returns c = wordy
