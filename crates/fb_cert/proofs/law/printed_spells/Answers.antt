use Rattle.std.proofs.Common.{subst}
use Rattle.fb_cert.specs.Sayable.{AreSayable}
use Rattle.fb_cert.proofs.Telling as telling
use Rattle.fb_cert.proofs.law.printed_spells.Goals as goal

pub returns : goal.returns
returns c = telling.printed_spells c.args.certificate.now (subst AreSayable c.certificate.view_is c.certificate.invariant)
