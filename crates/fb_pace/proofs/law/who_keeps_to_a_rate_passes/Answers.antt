use Rattle.fb_pace.proofs.Keeping.{keeper_passes}
use Rattle.fb_pace.proofs.law.who_keeps_to_a_rate_passes.Goals as goal

pub returns : goal.returns
returns c = keeper_passes
