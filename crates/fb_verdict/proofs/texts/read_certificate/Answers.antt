use Rattle.std.proofs.Common.{◌∙◌}
use Rattle.fb_cert.specs.Views.{certificate_of}
use Rattle.fb_verdict.proofs.Reading.{no_room}
use Rattle.fb_verdict.proofs.texts.read_certificate.Goals as goal

pub returns-in-Err-clause-accepts : goal.returns-in-Err-clause-accepts
returns-in-Err-clause-accepts c = λ certificate short s. c.from.ensures ∙ no_room certificate_of c.in-Err.fault certificate (c.in-Err.ensures.only certificate short s)
