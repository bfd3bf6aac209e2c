use Rattle.fb_model.specs.Verdicts.{IsFaultOf}
use Rattle.fb_verdict.proofs.Promised.{exactly_texts, truly}
use Rattle.fb_verdict.proofs.verdict.check_text.Goals as goal

pub returns-clause-exactly : goal.returns-clause-exactly
returns-clause-exactly c = exactly_texts c.args.text.now c.args.certificate.now c.judge.result c.judge.ensures.accepted c.judge.ensures.within c.judge.ensures.accepts

pub returns-clause-truly : goal.returns-clause-truly
returns-clause-truly c = truly (IsFaultOf c.args.text.now c.args.certificate.now) c.judge.result c.judge.ensures.refused
