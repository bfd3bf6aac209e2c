use Rattle.std.proofs.Common.{◌∙◌, sym}
use Rattle.fb_device.proofs.FirstDue.{next_due_is}
use Rattle.fb_device.proofs.due.next_due.Goals as goal

pub returns-in-Some : goal.returns-in-Some
returns-in-Some c = λ store all armed. next_due_is store all c.args.timers.now.armed _ c.keeps_order.ensures.order.0 c.keeps_order.ensures.order.1 armed (sym c.due_at.ensures ∙ c.in-Some.is)

pub returns-in-None : goal.returns-in-None
returns-in-None c = λ store all armed. next_due_is store all c.args.timers.now.armed _ c.keeps_order.ensures.order.0 c.keeps_order.ensures.order.1 armed (sym c.due_at.ensures ∙ c.in-None.is)
