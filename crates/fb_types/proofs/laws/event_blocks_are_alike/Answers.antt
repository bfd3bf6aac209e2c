use Rattle.fb_types.proofs.Beforehand.{elaborated_with}
use Rattle.fb_types.proofs.laws.event_blocks_are_alike.Goals as goal

pub returns : goal.returns
returns c = elaborated_with
