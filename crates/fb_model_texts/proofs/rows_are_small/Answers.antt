use Rattle.fb_model_texts.proofs.Small.{small}
use Rattle.fb_model_texts.proofs.rows_are_small.Goals as goal

pub returns : goal.returns
returns c = λ text cert h. small text cert h
