use Rattle.fb_read.proofs.Fronts.{last_ends}
use Rattle.fb_read.proofs.token.end_of.Goals as goal

pub returns-in-Some : goal.returns-in-Some
returns-in-Some c = last_ends 0 c.args.tokens.now c.in-Some.token.now c.in-Some.ensures.value
