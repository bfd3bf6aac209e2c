use Rattle.std.proofs.lemmas.Result.{err_from_is_err_and}
use Rattle.fb_cert.specs.Views.{rows_of}
use Rattle.fb_find.proofs.Taking.{stray_told}
use Rattle.fb_find.proofs.within.kept_within.Goals as goal

pub returns-in-Err-clause-refused : goal.returns-in-Err-clause-refused
returns-in-Err-clause-refused c = λ s given. stray_told (rows_of c.args.ranges.now) (rows_of c.in_ok-certificate.certificate) c.args.repeats s c.in-Err.fault (c.in_ok-certificate.ensures.found s given) c.in-Err.ensures.refused

pub returns-in_err-certificate-clause-refused : goal.returns-in_err-certificate-clause-refused
returns-in_err-certificate-clause-refused c = λ s given.
    let p = err_from_is_err_and c.from_residual.result c.from_residual.ensures.1 in
    rw (p.1, p.2) (c.in_err-certificate.ensures.refused s given)
