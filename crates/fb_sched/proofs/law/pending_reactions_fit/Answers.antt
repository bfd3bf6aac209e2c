use Rattle.fb_sched.proofs.Marked.{no_more_reactions}
use Rattle.fb_sched.proofs.law.pending_reactions_fit.Goals as goal

pub returns : goal.returns
returns c = no_more_reactions
