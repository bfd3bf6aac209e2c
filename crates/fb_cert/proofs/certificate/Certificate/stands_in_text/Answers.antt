use Rattle.std.proofs.Common.{subst}
use Rattle.fb_cert.specs.Sayable.{AreSayable}
use Rattle.fb_cert.proofs.Telling.{sayable_told}
use Rattle.fb_cert.proofs.certificate.Certificate.stands_in_text.Goals as goal

pub returns : goal.returns
returns c = sayable_told c.args.self.now (subst AreSayable c.self.view_is c.self.invariant)
