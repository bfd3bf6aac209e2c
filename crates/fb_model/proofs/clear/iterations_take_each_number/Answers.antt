use Rattle.fb_model.proofs.Counted.{each_number}
use Rattle.fb_model.proofs.clear.iterations_take_each_number.Goals as goal

pub returns : goal.returns
returns c = each_number
