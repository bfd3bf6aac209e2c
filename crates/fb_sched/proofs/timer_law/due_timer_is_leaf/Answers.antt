use Rattle.fb_sched.proofs.Leaves.{due_leaf}
use Rattle.fb_sched.proofs.timer_law.due_timer_is_leaf.Goals as goal

pub returns : goal.returns
returns c = due_leaf
