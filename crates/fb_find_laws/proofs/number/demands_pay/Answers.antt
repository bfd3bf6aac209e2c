use Rattle.fb_find_laws.proofs.Paying.{numbered_pays}
use Rattle.fb_find_laws.proofs.number.demands_pay.Goals as goal

pub returns : goal.returns
returns c = numbered_pays
