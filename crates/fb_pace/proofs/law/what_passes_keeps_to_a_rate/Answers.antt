use Rattle.fb_pace.proofs.Keeping.{what_passes}
use Rattle.fb_pace.proofs.law.what_passes_keeps_to_a_rate.Goals as goal

pub returns : goal.returns
returns c = what_passes
