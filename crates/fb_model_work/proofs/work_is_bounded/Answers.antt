use Rattle.fb_model_work.proofs.Pricing.{systems_are_priced}
use Rattle.fb_model_work.proofs.Bounded.{bounded}
use Rattle.fb_model_work.proofs.work_is_bounded.Goals as goal

pub returns : goal.returns
returns c = bounded (λ prices ranges library source system h. systems_are_priced library.blocks source system h prices ranges)
