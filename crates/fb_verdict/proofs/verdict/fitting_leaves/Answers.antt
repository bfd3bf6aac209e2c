use Rattle.std.proofs.lemmas.Result.{err_from_is_err_and}
use Rattle.fb_cert.specs.Views.{certificate_of}
use Rattle.fb_types.specs.Views.{system_of}
use Rattle.fb_verdict.proofs.Denied.{of_limit}
use Rattle.fb_verdict.proofs.verdict.fitting_leaves.Goals as goal

pub returns-in_err-flat-clause-refused : goal.returns-in_err-flat-clause-refused
returns-in_err-flat-clause-refused c =
    let p = err_from_is_err_and c.from_residual.result c.from_residual.ensures.1 in
    rw (p.1, p.2) (of_limit c.args.typed.now (certificate_of c.args.certificate.now) c.in_err-flat.field-0.0 c.in_err-flat.ensures.refused)

pub returns-in-Ok-clause-fits : goal.returns-in-Ok-clause-fits
returns-in-Ok-clause-fits c = c.in-Ok.ensures.fits (system_of c.args.typed.now) c.stands_in_text.ensures c.in_ok-flat.ensures.leaves c.in_ok-flat.ensures.few
