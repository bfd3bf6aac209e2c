use Rattle.fb_sched.proofs.Told.{due_cleared}
use Rattle.fb_sched.proofs.timer_law.disarming_clears.Goals as goal

pub returns : goal.returns
returns c = due_cleared
