use Rattle.fb_model.proofs.Sending.{sends_messages}
use Rattle.fb_model.proofs.sends_spell_messages.Goals as goal

pub returns : goal.returns
returns c = λ device cert holding old s. sends_messages cert device holding old s
