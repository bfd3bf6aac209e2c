use Rattle.fb_model_laws.proofs.Feeding.{all_last_rows_hold}
use Rattle.fb_model_laws.proofs.round.last_rows_hold.Goals as goal

pub returns : goal.returns
returns c = all_last_rows_hold
