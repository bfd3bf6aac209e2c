use Rattle.std.proofs.Common.{◌≡◌, refl, subst, arith}
use Rattle.std.specs.Vec.{with_item}
use Rattle.fb_model.specs.Wires.{Leaf, leaves}
use Rattle.fb_model.specs.Store.{Fired, with_leaf}
use Rattle.fb_chart.specs.declared.standing.Standing.TheVariants as s
use Rattle.fb_chart.specs.declared.memory.Condition.TheVariants.{Service}
use Rattle.fb_device_state.specs.declared.program.Running.{Running}
use Rattle.fb_device_state.specs.Sessions.{session_of}
use Rattle.fb_device_state.specs.Machines.{device_in, machine_of}
use Rattle.fb_lists.proofs.Lists.{same_at}
use Rattle.fb_device_state.proofs.Blocks.{within}
use Rattle.fb_device_arrivals.proofs.Firing.{machine_is, good_after}
use Rattle.fb_device_arrivals.proofs.clock.fire.Goals as goal

pub index_mut-requires : goal.index_mut-requires
index_mut-requires c =
    let st = c.requires.good.stand c.args.block c.requires.timer.leaf c.requires.timer.stands in
    omega (arith, within c.args.running.now.memory.conditions.items c.args.block st.condition st.condition_is, c.args.running.now.memory.conditions.ok)

pub returns-clause-machine : goal.returns-clause-machine
returns-clause-machine c = λ leaf at.
    let m = machine_of (session_of c.args.program.now c.args.running.now) in
    let new : Running = (record { queues = c.args.running.now.queues; memory = record { own = c.args.running.now.memory.own; issued = c.args.running.now.memory.issued; conditions = with_item c.args.running.now.memory.conditions c.args.block (Service s.Fired) }; timers = c.disarm.new.self; outbox = c.args.running.now.outbox; clock = c.args.running.now.clock; next = c.args.running.now.next }) in
    subst (λ (l : Leaf). machine_of (session_of c.args.program.now new) ≡ record { queues = m.queues; store = with_leaf m.store l.path (record { cells = (m.store l.path).cells; condition = Fired }); spent = m.spent; clock = m.clock; next = m.next })
    (same_at (leaves (device_in (session_of c.args.program.now c.args.running.now))) c.args.block c.requires.timer.leaf leaf c.requires.timer.stands at)
    (machine_is c.args.program.now c.args.running.now c.requires.good c.args.block c.requires.timer c.keeps_order.ensures.order.1 new refl refl refl refl c.disarm.ensures.armed (omega (arith, c.disarm.ensures.room)) refl refl refl)

pub returns-clause-good : goal.returns-clause-good
returns-clause-good c =
    let new : Running = (record { queues = c.args.running.now.queues; memory = record { own = c.args.running.now.memory.own; issued = c.args.running.now.memory.issued; conditions = with_item c.args.running.now.memory.conditions c.args.block (Service s.Fired) }; timers = c.disarm.new.self; outbox = c.args.running.now.outbox; clock = c.args.running.now.clock; next = c.args.running.now.next }) in
    good_after c.args.program.now c.args.running.now c.requires.good c.args.block c.requires.timer c.keeps_order.ensures.order.1 new refl refl refl refl c.disarm.ensures.armed (omega (arith, c.disarm.ensures.room)) refl refl refl
