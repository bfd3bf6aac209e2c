use Rattle.std.proofs.Common.{cond, sym, ◌∙◌, ap, arith}
use Rattle.fb_model.specs.Wires.{leaves}
use Rattle.fb_sched.specs.Order.{without}
use Rattle.fb_device_state.specs.Sessions.{session_of}
use Rattle.fb_device_state.specs.Machines.{device_in, machine_of}
use Rattle.fb_device_arrivals.proofs.Ticks.{ticks, ticked, due_timer, fired_one, fired_less, waits_one, waits_less, waiting_few}
use Rattle.fb_device_arrivals.proofs.clock.tick.Goals as goal

pub loop-due-init : goal.loop-due-init
loop-due-init c = ticks c.args.program.now c.args.running.now c.advance.new.running c.args.now c.advance.ensures.good c.keeps_order.ensures.order.0 c.keeps_order.ensures.order.1 c.advance.ensures.machine

pub expire-requires-clause-timer : goal.expire-requires-clause-timer
expire-requires-clause-timer c =
    let at = sym c.due_at.ensures ∙ c.in-Some.is in
    due_timer (machine_of (session_of c.args.program.now c.loop-due.running)).store (leaves (device_in (session_of c.args.program.now c.args.running.now))) c.loop-due.running.timers.armed c.loop-due.running.clock c.loop-due.waiting c.in-Some.due c.loop-due.invariant.good.armed at

pub loop-due-smaller-then-expire : goal.loop-due-smaller-then-expire
loop-due-smaller-then-expire c =
    let at = sym c.due_at.ensures ∙ c.in-Some.is in
    let t = due_timer (machine_of (session_of c.args.program.now c.loop-due.running)).store (leaves (device_in (session_of c.args.program.now c.args.running.now))) c.loop-due.running.timers.armed c.loop-due.running.clock c.loop-due.waiting c.in-Some.due c.loop-due.invariant.good.armed at in
    fired_less c.args.program.now c.args.running.now c.loop-due.running c.args.now c.loop-due.fired c.loop-due.waiting c.loop-due.invariant c.in-Some.due at t.leaf t.stands c.expire.new.running
    (c.expire.ensures.armed ∙ ap (λ b. cond b (without c.loop-due.running.timers.armed c.in-Some.due.block) c.loop-due.running.timers.armed) c.if-expire.true) c.expire.ensures.clock

pub loop-due-preserved-then-expire : goal.loop-due-preserved-then-expire
loop-due-preserved-then-expire c =
    let at = sym c.due_at.ensures ∙ c.in-Some.is in
    let t = due_timer (machine_of (session_of c.args.program.now c.loop-due.running)).store (leaves (device_in (session_of c.args.program.now c.args.running.now))) c.loop-due.running.timers.armed c.loop-due.running.clock c.loop-due.waiting c.in-Some.due c.loop-due.invariant.good.armed at in
    let f = c.expire.ensures.fires t.leaf t.stands c.if-expire.true in
    fired_one c.args.program.now c.args.running.now c.loop-due.running c.args.now c.loop-due.fired c.loop-due.waiting c.loop-due.invariant c.in-Some.due at t.leaf t.stands c.expire.new.running c.expire.ensures.good
    (c.expire.ensures.armed ∙ ap (λ b. cond b (without c.loop-due.running.timers.armed c.in-Some.due.block) c.loop-due.running.timers.armed) c.if-expire.true) c.expire.ensures.clock f.0 f.1

pub overflow_add-waiting : goal.overflow_add-waiting
overflow_add-waiting c =
    let at = sym c.due_at.ensures ∙ c.in-Some.is in
    let t = due_timer (machine_of (session_of c.args.program.now c.loop-due.running)).store (leaves (device_in (session_of c.args.program.now c.args.running.now))) c.loop-due.running.timers.armed c.loop-due.running.clock c.loop-due.waiting c.in-Some.due c.loop-due.invariant.good.armed at in
    omega (arith, waiting_few c.args.program.now c.args.running.now c.loop-due.running c.args.now c.loop-due.fired c.loop-due.waiting c.loop-due.invariant c.in-Some.due at t.leaf t.stands)

pub loop-due-smaller : goal.loop-due-smaller
loop-due-smaller c =
    let at = sym c.due_at.ensures ∙ c.in-Some.is in
    let t = due_timer (machine_of (session_of c.args.program.now c.loop-due.running)).store (leaves (device_in (session_of c.args.program.now c.args.running.now))) c.loop-due.running.timers.armed c.loop-due.running.clock c.loop-due.waiting c.in-Some.due c.loop-due.invariant.good.armed at in
    waits_less c.args.program.now c.args.running.now c.loop-due.running c.args.now c.loop-due.fired c.loop-due.waiting c.loop-due.invariant c.in-Some.due at t.leaf t.stands c.expire.new.running
    (c.expire.ensures.armed ∙ ap (λ b. cond b (without c.loop-due.running.timers.armed c.in-Some.due.block) c.loop-due.running.timers.armed) c.if-expire.false) c.expire.ensures.clock

pub loop-due-preserved : goal.loop-due-preserved
loop-due-preserved c =
    let at = sym c.due_at.ensures ∙ c.in-Some.is in
    let t = due_timer (machine_of (session_of c.args.program.now c.loop-due.running)).store (leaves (device_in (session_of c.args.program.now c.args.running.now))) c.loop-due.running.timers.armed c.loop-due.running.clock c.loop-due.waiting c.in-Some.due c.loop-due.invariant.good.armed at in
    let s = c.expire.ensures.stays t.leaf t.stands c.if-expire.false in
    waits_one c.args.program.now c.args.running.now c.loop-due.running c.args.now c.loop-due.fired c.loop-due.waiting c.loop-due.invariant c.in-Some.due at t.leaf t.stands c.expire.new.running c.expire.ensures.good
    (c.expire.ensures.armed ∙ ap (λ b. cond b (without c.loop-due.running.timers.armed c.in-Some.due.block) c.loop-due.running.timers.armed) c.if-expire.false) c.expire.ensures.clock s.0 s.1

pub returns-clause-step : goal.returns-clause-step
returns-clause-step c = ticked c.args.program.now c.args.running.now c.loop-due.running c.args.now c.loop-due.fired c.loop-due.waiting c.loop-due.invariant (sym c.due_at.ensures ∙ c.in_default.is)
