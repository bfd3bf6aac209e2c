use Rattle.fb_model_lengths.proofs.Texts.{fitting}
use Rattle.fb_model_lengths.proofs.fitting_texts_are_long.Goals as goal

pub returns : goal.returns
returns c = λ library source system text cert typed fits spelled. fitting library source system text cert typed fits.rows spelled
