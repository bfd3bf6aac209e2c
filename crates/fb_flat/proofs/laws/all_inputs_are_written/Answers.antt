use Rattle.fb_flat.proofs.Few.{inputs_written}
use Rattle.fb_flat.proofs.laws.all_inputs_are_written.Goals as goal

pub returns : goal.returns
returns c = inputs_written
