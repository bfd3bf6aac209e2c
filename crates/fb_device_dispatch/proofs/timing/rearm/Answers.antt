use Rattle.std.proofs.Common.{ℕ, cond, eqb, List, Option, ◌∙◌, ap}
use Rattle.fb_sched.specs.declared.armed.Armed.{Armed}
use Rattle.fb_sched.specs.Order.{due_of, placed}
use Rattle.fb_device_dispatch.proofs.Timed.{unarmed, quiet, armed_anew}
use Rattle.fb_device_dispatch.proofs.timing.rearm.Goals as goal

pub arm-requires-clause-quiet : goal.arm-requires-clause-quiet
arm-requires-clause-quiet c = ap (λ (l : List Armed). due_of l c.args.block) c.disarm.ensures.armed ∙ quiet c.args.timers.now.armed c.args.block c.keeps_order.ensures.order.1

pub returns-in-Some-clause-armed : goal.returns-in-Some-clause-armed
returns-in-Some-clause-armed c k =
    ap (λ (l : List Armed). due_of l k) (c.arm.ensures.armed ∙ ap (placed (record { due = c.in-Some.due; block = c.args.block })) c.disarm.ensures.armed)
    ∙ armed_anew c.args.timers.now.armed c.args.block c.in-Some.due k c.keeps_order.ensures.order.1
    ∙ ap (λ (o : Option ℕ). cond (eqb c.args.block k) o (due_of c.args.timers.now.armed k)) (c.in-Some.ensures)

pub returns-in-None-clause-armed : goal.returns-in-None-clause-armed
returns-in-None-clause-armed c k =
    ap (λ (l : List Armed). due_of l k) c.disarm.ensures.armed
    ∙ unarmed c.args.timers.now.armed c.args.block k c.keeps_order.ensures.order.1
    ∙ ap (λ (o : Option ℕ). cond (eqb c.args.block k) o (due_of c.args.timers.now.armed k)) (c.in-None.ensures)
