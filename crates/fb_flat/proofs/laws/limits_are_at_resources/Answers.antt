use Rattle.fb_flat.proofs.Crowding.{crowded_at}
use Rattle.fb_flat.proofs.laws.limits_are_at_resources.Goals as goal

pub returns : goal.returns
returns c = crowded_at
