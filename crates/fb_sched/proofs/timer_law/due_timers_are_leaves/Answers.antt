use Rattle.fb_sched.proofs.Leaves.{due_leaves}
use Rattle.fb_sched.proofs.timer_law.due_timers_are_leaves.Goals as goal

pub returns : goal.returns
returns c = due_leaves
