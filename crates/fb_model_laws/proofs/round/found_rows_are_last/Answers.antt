use Rattle.fb_model_laws.proofs.Devices.{found_rows_are_last}
use Rattle.fb_model_laws.proofs.round.found_rows_are_last.Goals as goal

pub returns : goal.returns
returns c = found_rows_are_last
