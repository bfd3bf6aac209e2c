use Rattle.fb_model_texts.proofs.Messages.{begins_no_other}
use Rattle.fb_model_texts.proofs.bytes_spell_one_message.Goals as goal

pub returns : goal.returns
returns c = λ bytes more m n s t. begins_no_other m n bytes more s t
