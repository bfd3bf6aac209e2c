use Rattle.fb_model_laws.proofs.Growing as laws
use Rattle.fb_model_laws.proofs.asked.rows_only_grow.Goals as goal

pub returns : goal.returns
returns c = laws.grown_grows
