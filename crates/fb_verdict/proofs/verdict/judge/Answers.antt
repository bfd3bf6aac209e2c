use Rattle.std.proofs.Common.{◌≡◌, subst, sym}
use Rattle.std.proofs.lemmas.Result.{IfErr-weaker}
use Rattle.fb_cert.specs.Views.{certificate_of}
use Rattle.fb_types.specs.Views.{system_of}
use Rattle.fb_model.specs.Certificates.{Fits}
use Rattle.fb_model.specs.Verdicts.{of_both}
use Rattle.fb_verdict.proofs.Misfit.{of_texts}
use Rattle.fb_verdict.proofs.Reading.{accepted_by}
use Rattle.fb_verdict.proofs.verdict.judge.Goals as goal

pub returns-in-Ok-read_certificate-clause-accepted : goal.returns-in-Ok-read_certificate-clause-accepted
returns-in-Ok-read_certificate-clause-accepted c =
    let system = system_of c.in-Ok.typed in
    let rows = certificate_of c.in-Ok-read_certificate.rows in
    accepted_by c.args.text.now c.args.certificate.now system rows c.check.result c.in-Ok.ensures.typed.system_is c.in-Ok-read_certificate.ensures.spelled c.check.ensures.same
    c.check.ensures.fits

pub returns-in-Ok-read_certificate-clause-refused : goal.returns-in-Ok-read_certificate-clause-refused
returns-in-Ok-read_certificate-clause-refused c =
    IfErr-weaker c.check.result _ _
    (λ f h. of_both (of_texts c.args.text.now c.args.certificate.now c.in-Ok.typed (certificate_of c.in-Ok-read_certificate.rows) f c.in-Ok.ensures.typed c.in-Ok-read_certificate.ensures.spelled h))
    c.check.ensures.refused

pub returns-in-Ok-read_certificate-clause-accepts : goal.returns-in-Ok-read_certificate-clause-accepts
returns-in-Ok-read_certificate-clause-accepts c = λ source system rows short few is e written_is fits.
    let s : system_of c.in-Ok.typed ≡ system = c.in-Ok.ensures.accepts source system short is e in
    let r : certificate_of c.in-Ok-read_certificate.rows ≡ rows = c.in-Ok-read_certificate.ensures.accepts rows few written_is in
    c.check.ensures.accepts (subst (λ x. Fits x (certificate_of c.in-Ok-read_certificate.rows)) (sym s) (subst (Fits system) (sym r) fits))

pub returns-in-Err-read_certificate-clause-accepts : goal.returns-in-Err-read_certificate-clause-accepts
returns-in-Err-read_certificate-clause-accepts c = λ source system rows short few is e written_is fits. c.in-Err-read_certificate.ensures.accepts rows few written_is

pub returns-in-Err-clause-accepts : goal.returns-in-Err-clause-accepts
returns-in-Err-clause-accepts c = λ source system rows short few is e written_is fits. c.in-Err.ensures.accepts source system short is e
