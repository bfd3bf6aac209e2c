use Rattle.fb_find_laws.proofs.Paying.{numbered_network_pays}
use Rattle.fb_find_laws.proofs.number.network_demands_pay.Goals as goal

pub returns : goal.returns
returns c = numbered_network_pays
