use Rattle.fb_seal.proofs.Replays.{not_refused}
use Rattle.fb_seal.proofs.law.a_friend_is_admitted.Goals as goal

pub returns : goal.returns
returns c = not_refused
