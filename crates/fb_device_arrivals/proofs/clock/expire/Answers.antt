use Rattle.std.proofs.Common.{◌≡◌, ℤ, List, true, sym, ◌∙◌, ap, subst}
use Rattle.fb_model.specs.Wires.{Leaf, leaves}
use Rattle.fb_model.specs.Store.{Fired, with_leaf}
use Rattle.fb_model.specs.Devices.{Machine, is_timer, expiring}
use Rattle.fb_device_state.specs.Sessions.{session_of}
use Rattle.fb_device_state.specs.Machines.{device_in, cert_in, machine_of}
use Rattle.fb_device_state.specs.Arrivals.{IsArrival}
use Rattle.fb_lists.proofs.Lists.{same_at}
use Rattle.fb_device_arrivals.proofs.Ticks.{expiry, no_room}
use Rattle.fb_device_arrivals.proofs.clock.expire.Goals as goal

pub admit-requires-clause-arrival : goal.admit-requires-clause-arrival
admit-requires-clause-arrival c =
    let all = leaves (device_in (session_of c.args.program.now c.args.running.now)) in
    let t = c.requires.timer in
    (expiring t.leaf, subst (λ (vs : List ℤ). IsArrival all (record { block = c.args.block; event = 2 }) vs (expiring t.leaf)) (sym c.new.ensures) (expiry all c.args.block t.leaf t.stands t.timer))

pub returns-in-Ok-clause-fires : goal.returns-in-Ok-clause-fires
returns-in-Ok-clause-fires c = λ leaf at yes.
    let all = leaves (device_in (session_of c.args.program.now c.args.running.now)) in
    let same = same_at all c.args.block c.requires.timer.leaf leaf c.requires.timer.stands at in
    let timer : is_timer leaf.kind ≡ true = ap (λ (l : Leaf). is_timer l.kind) (sym same) ∙ c.requires.timer.timer in
    let a = c.in-Ok.ensures.admits (expiring leaf) (subst (λ (vs : List ℤ). IsArrival all (record { block = c.args.block; event = 2 }) vs (expiring leaf)) (sym c.new.ensures) (expiry all c.args.block leaf at timer)) in
    (a.room, c.fire.ensures.machine leaf at ∙ ap (λ (m : Machine). record { queues = m.queues; store = with_leaf m.store leaf.path (record { cells = (m.store leaf.path).cells; condition = Fired }); spent = m.spent; clock = m.clock; next = m.next }) a.new_is)

pub returns-in-Err-clause-stays : goal.returns-in-Err-clause-stays
returns-in-Err-clause-stays c = λ leaf at no.
    let all = leaves (device_in (session_of c.args.program.now c.args.running.now)) in
    let same = same_at all c.args.block c.requires.timer.leaf leaf c.requires.timer.stands at in
    let timer : is_timer leaf.kind ≡ true = ap (λ (l : Leaf). is_timer l.kind) (sym same) ∙ c.requires.timer.timer in
    let s = c.in-Err.ensures.short (expiring leaf) (subst (λ (vs : List ℤ). IsArrival all (record { block = c.args.block; event = 2 }) vs (expiring leaf)) (sym c.new.ensures) (expiry all c.args.block leaf at timer)) in
    (no_room (cert_in (session_of c.args.program.now c.args.running.now)) (device_in (session_of c.args.program.now c.args.running.now)) (machine_of (session_of c.args.program.now c.args.running.now)) (expiring leaf) _ s.0, s.1)
