use Rattle.fb_find_laws.proofs.Laws.{made_is}
use Rattle.fb_find_laws.proofs.found.made_certificates_are_found.Goals as goal

pub returns : goal.returns
returns c = made_is
