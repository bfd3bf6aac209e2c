use Rattle.fb_model.proofs.Narrowing.{narrowing}
use Rattle.fb_model.proofs.clear.narrowing_keeps.Goals as goal

pub returns : goal.returns
returns c = narrowing
