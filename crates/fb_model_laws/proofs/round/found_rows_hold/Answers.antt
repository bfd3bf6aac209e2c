use Rattle.fb_model_laws.proofs.Among.{found_rows_hold}
use Rattle.fb_model_laws.proofs.round.found_rows_hold.Goals as goal

pub returns : goal.returns
returns c = found_rows_hold
