use Rattle.fb_sched.proofs.Ordered.{due_placed}
use Rattle.fb_sched.proofs.timer_law.arming_adds.Goals as goal

pub returns : goal.returns
returns c = due_placed
