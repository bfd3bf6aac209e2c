use Rattle.fb_sched.proofs.Entries.{pending_is}
use Rattle.fb_sched.proofs.law.pending_by_slot.Goals as goal

pub returns : goal.returns
returns c = pending_is
