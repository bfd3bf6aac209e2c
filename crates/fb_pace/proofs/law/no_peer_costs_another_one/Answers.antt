use Rattle.fb_pace.proofs.Apart.{alone}
use Rattle.fb_pace.proofs.law.no_peer_costs_another_one.Goals as goal

pub returns : goal.returns
returns c = alone
