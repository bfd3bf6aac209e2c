use Rattle.fb_cert.proofs.Texts as texts
use Rattle.fb_cert.proofs.law.spelled_once.Goals as goal

pub returns : goal.returns
returns c = texts.spelled_once
