use Rattle.std.proofs.lemmas.Result.{IfErr-weaker}
use Rattle.fb_cert.specs.Views.{certificate_of}
use Rattle.fb_types.specs.Views.{system_of}
use Rattle.fb_verdict.specs.Faults.{IsFitFault}
use Rattle.fb_verdict.proofs.Denied.{denied}
use Rattle.fb_verdict.proofs.Promised.{exactly_given, truly}
use Rattle.fb_verdict.proofs.verdict.check.Goals as goal

pub returns-clause-accepts : goal.returns-clause-accepts
returns-clause-accepts c = λ fits. IfErr-weaker c.verified.result _ _ (λ f h. denied c.args.typed (certificate_of c.args.certificate) f h fits) c.verified.ensures.refused

pub returns-clause-exactly : goal.returns-clause-exactly
returns-clause-exactly c =
    exactly_given (system_of c.args.typed) (certificate_of c.args.certificate) c.verified.result c.verified.ensures.same c.verified.ensures.fits
    (λ fits. IfErr-weaker c.verified.result _ _ (λ f h. denied c.args.typed (certificate_of c.args.certificate) f h fits) c.verified.ensures.refused)

pub returns-clause-truly : goal.returns-clause-truly
returns-clause-truly c = truly (IsFitFault c.args.typed (certificate_of c.args.certificate)) c.verified.result c.verified.ensures.refused
