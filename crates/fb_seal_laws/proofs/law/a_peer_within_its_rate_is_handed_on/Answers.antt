use Rattle.fb_seal_laws.proofs.Fairness.{fair}
use Rattle.fb_seal_laws.proofs.law.a_peer_within_its_rate_is_handed_on.Goals as goal

pub returns : goal.returns
returns x c = fair x.L.Link.steps x.K.Ledger.writes
