use Rattle.std.proofs.Common.{◌≡◌, ap, ◌∙◌}
use Rattle.std.proofs.lemmas.Result.{err_from_is_err_and}
use Rattle.fb_model.specs.CertificateText.{words}
use Rattle.fb_cert.specs.Views.{texts}
use Rattle.fb_cert.proofs.reading.take_line.Goals as goal

pub returns-in_err-words : goal.returns-in_err-words
returns-in_err-words c = let p = err_from_is_err_and c.from_residual.result c.from_residual.ensures.1 in rw p.1 (rw p.2 tt)

pub returns : goal.returns
returns c =
    let e : texts c.as_slice.result.now ≡ words c.args.line.now = ap texts c.as_slice.ensures.value ∙ c.in_ok-words.ensures in
    rw (← e) c.take.ensures
