use Rattle.std.proofs.Common.{◌≡◌, refl, sym, ◌∙◌, ap, subst, arith}
use Rattle.std.specs.Vec.{with_item}
use Rattle.fb_model.specs.Wires.{Leaf, leaves}
use Rattle.fb_model.specs.Devices.{with_stamp}
use Rattle.fb_wire.specs.Views.{stamp_of}
use Rattle.fb_chart.specs.declared.standing.Stamps.TheVariants as k
use Rattle.fb_chart.specs.declared.standing.Standing.TheVariants as s
use Rattle.fb_chart.specs.declared.memory.Condition.TheVariants.{Service}
use Rattle.fb_device_state.specs.declared.program.Running.{Running}
use Rattle.fb_device_state.specs.Sessions.{session_of}
use Rattle.fb_device_state.specs.Machines.{device_in, machine_of}
use Rattle.fb_lists.proofs.Lists.{same_at}
use Rattle.fb_device_state.proofs.Blocks.{within}
use Rattle.fb_device_arrivals.specs.Stamping.{CanKeep}
use Rattle.fb_device_arrivals.proofs.Stamped.{unstamped, machine_is, good_after}
use Rattle.fb_device_arrivals.proofs.stamps.keep.Goals as goal

pub index_mut-requires : goal.index_mut-requires
index_mut-requires c =
    let st = c.requires.good.stand c.args.block c.requires.keeps.leaf c.requires.keeps.stands in
    omega (arith, within c.args.running.now.memory.conditions.items c.args.block st.condition st.condition_is, c.args.running.now.memory.conditions.ok)

pub returns-in-Some-clause-machine : goal.returns-in-Some-clause-machine
returns-in-Some-clause-machine c = λ leaf at.
    let m = machine_of (session_of c.args.program.now c.args.running.now) in
    let all = leaves (device_in (session_of c.args.program.now c.args.running.now)) in
    let keeps = subst (λ o. CanKeep all m c.args.block (stamp_of o)) c.in-Some.is c.requires.keeps in
    let new : Running = (record { queues = c.args.running.now.queues; memory = record { own = c.args.running.now.memory.own; issued = c.args.running.now.memory.issued; conditions = with_item c.args.running.now.memory.conditions c.args.block (Service (s.Ready (k.Latest c.in-Some.stamp))) }; timers = c.args.running.now.timers; outbox = c.args.running.now.outbox; clock = c.args.running.now.clock; next = c.args.running.now.next }) in
    subst (λ (l : Leaf). machine_of (session_of c.args.program.now new) ≡ with_stamp m l (stamp_of c.args.stamp)) (same_at all c.args.block keeps.leaf leaf keeps.stands at)
    (machine_is c.args.program.now c.args.running.now c.requires.good c.args.block c.in-Some.stamp keeps new refl refl refl refl refl refl refl refl ∙ ap (λ o. with_stamp m keeps.leaf (stamp_of o)) (sym c.in-Some.is))

pub returns-in-Some-clause-good : goal.returns-in-Some-clause-good
returns-in-Some-clause-good c =
    let m = machine_of (session_of c.args.program.now c.args.running.now) in
    let all = leaves (device_in (session_of c.args.program.now c.args.running.now)) in
    let keeps = subst (λ o. CanKeep all m c.args.block (stamp_of o)) c.in-Some.is c.requires.keeps in
    let new : Running = (record { queues = c.args.running.now.queues; memory = record { own = c.args.running.now.memory.own; issued = c.args.running.now.memory.issued; conditions = with_item c.args.running.now.memory.conditions c.args.block (Service (s.Ready (k.Latest c.in-Some.stamp))) }; timers = c.args.running.now.timers; outbox = c.args.running.now.outbox; clock = c.args.running.now.clock; next = c.args.running.now.next }) in
    good_after c.args.program.now c.args.running.now c.requires.good c.args.block c.in-Some.stamp keeps new refl refl refl refl refl refl refl refl

pub returns-in-None-clause-machine : goal.returns-in-None-clause-machine
returns-in-None-clause-machine c = λ leaf at.
    let m = machine_of (session_of c.args.program.now c.args.running.now) in
    sym (ap (λ o. with_stamp m leaf (stamp_of o)) c.in-None.is ∙ unstamped m leaf)
