use Rattle.fb_model_laws.proofs.Places.{found_rows_are_all}
use Rattle.fb_model_laws.proofs.round.found_rows_are_all.Goals as goal

pub returns : goal.returns
returns c = found_rows_are_all
