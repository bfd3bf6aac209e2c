use Rattle.fb_sched.proofs.Marked.{places_held}
use Rattle.fb_sched.proofs.law.credit_is_held.Goals as goal

pub returns : goal.returns
returns c = places_held
