use Rattle.fb_keys.proofs.Words.{cut}
use Rattle.fb_keys.proofs.rate.before_s.Goals as goal

pub returns : goal.returns
returns c = cut c.args.word.now c.strip_suffix.result c.strip_suffix.ensures.cases
