use Rattle.std.proofs.Common.{◌≡◌, length, ◌+◌, ◌<◌, ◌≤◌, ◌^◌, set, refl, sym, ◌∙◌, ap, subst, arith}
use Rattle.std.specs.Vec.{with_item}
use Rattle.fb_lists.proofs.Lists.{stands_at, same_at}
use Rattle.fb_sched.specs.Agenda.{Agenda, IsNew, all_places, reactions_in}
use Rattle.fb_sched.specs.Changes.{Opens}
use Rattle.fb_device_state.specs.Sessions.{next_of}
use Rattle.fb_device_state.proofs.Arriving as at
use Rattle.fb_device_state.proofs.Arriving.{next_up, next_in_range, cause_in_range, next_is}
use Rattle.fb_device_state.proofs.admission.admit.Goals as goal

pub index-block-requires : goal.index-block-requires
index-block-requires c = omega (arith, at.block_in c.args.program.now c.args.running.now c.requires.good c.args.point c.args.values c.requires.arrival.0 c.requires.arrival.1, c.args.program.now.tables.blocks.ok)

pub index-requires : goal.index-requires
index-requires c =
    let b_is = stands_at c.args.program.now.tables.blocks.items c.args.point.block c.index-block.result.now c.index-block.result.now (at.block_in c.args.program.now c.args.running.now c.requires.good c.args.point c.args.values c.requires.arrival.0 c.requires.arrival.1) c.index-block.ensures in
    omega (arith, at.event_in c.args.program.now c.args.running.now c.requires.good c.args.point c.args.values c.requires.arrival.0 c.requires.arrival.1 c.index-block.result.now b_is, c.index-block.result.now.events.ok)

pub index-requires-2 : goal.index-requires-2
index-requires-2 c =
    let b_is = stands_at c.args.program.now.tables.blocks.items c.args.point.block c.index-block.result.now c.index-block.result.now (at.block_in c.args.program.now c.args.running.now c.requires.good c.args.point c.args.values c.requires.arrival.0 c.requires.arrival.1) c.index-block.ensures in
    omega (arith, at.queue_in c.args.program.now c.args.running.now c.requires.good c.args.point c.args.values c.requires.arrival.0 c.requires.arrival.1 c.index-block.result.now b_is, c.args.running.now.queues.ok)

pub index_mut-requires : goal.index_mut-requires
index_mut-requires c =
    let b_is = stands_at c.args.program.now.tables.blocks.items c.args.point.block c.index-block.result.now c.index-block.result.now (at.block_in c.args.program.now c.args.running.now c.requires.good c.args.point c.args.values c.requires.arrival.0 c.requires.arrival.1) c.index-block.ensures in
    omega (arith, at.queue_in c.args.program.now c.args.running.now c.requires.good c.args.point c.args.values c.requires.arrival.0 c.requires.arrival.1 c.index-block.result.now b_is, c.args.running.now.queues.ok)

pub returns-then-needs-free-clause-short : goal.returns-then-needs-free-clause-short
returns-then-needs-free-clause-short c = λ a is.
    let b_is = stands_at c.args.program.now.tables.blocks.items c.args.point.block c.index-block.result.now c.index-block.result.now (at.block_in c.args.program.now c.args.running.now c.requires.good c.args.point c.args.values a is) c.index-block.ensures in
    let e_is = stands_at c.index-block.result.now.events.items c.args.point.event c.index.result.now c.index.result.now (at.event_in c.args.program.now c.args.running.now c.requires.good c.args.point c.args.values a is c.index-block.result.now b_is) c.index.ensures in
    let needs = at.places_of_event c.args.program.now c.args.running.now c.requires.good c.args.point c.args.values a is c.index-block.result.now b_is c.index.result.now e_is in
    let at_b = stands_at c.args.running.now.queues.items c.index-block.result.now.resource c.index-2.result.now c.index-2.result.now (at.queue_in c.args.program.now c.args.running.now c.requires.good c.args.point c.args.values a is c.index-block.result.now b_is) c.index-2.ensures in
    let x_is = at.queue_at_home c.args.program.now c.args.running.now c.requires.good c.args.point c.args.values a is c.index-block.result.now b_is c.index-2.result.now at_b in
    (at.lacks c.args.program.now c.args.running.now c.requires.good c.args.point c.args.values a is c.index-2.result.now x_is c.index.result.now.places c.free-free.result needs c.free-free.ensures.free c.if-needs-free.true, refl)

pub open-requires-clause-entries : goal.open-requires-clause-entries
open-requires-clause-entries c =
    let b_is = stands_at c.args.program.now.tables.blocks.items c.args.point.block c.index-block.result.now c.index-block.result.now (at.block_in c.args.program.now c.args.running.now c.requires.good c.args.point c.args.values c.requires.arrival.0 c.requires.arrival.1) c.index-block.ensures in
    let e_is = stands_at c.index-block.result.now.events.items c.args.point.event c.index.result.now c.index.result.now (at.event_in c.args.program.now c.args.running.now c.requires.good c.args.point c.args.values c.requires.arrival.0 c.requires.arrival.1 c.index-block.result.now b_is) c.index.ensures in
    let needs = at.places_of_event c.args.program.now c.args.running.now c.requires.good c.args.point c.args.values c.requires.arrival.0 c.requires.arrival.1 c.index-block.result.now b_is c.index.result.now e_is in
    let at_b = stands_at c.args.running.now.queues.items c.index-block.result.now.resource c.index-2.result.now c.index-2.result.now (at.queue_in c.args.program.now c.args.running.now c.requires.good c.args.point c.args.values c.requires.arrival.0 c.requires.arrival.1 c.index-block.result.now b_is) c.index-2.ensures in
    let x_is = at.queue_at_home c.args.program.now c.args.running.now c.requires.good c.args.point c.args.values c.requires.arrival.0 c.requires.arrival.1 c.index-block.result.now b_is c.index-2.result.now at_b in
    let credit = at.credit_of c.args.program.now c.args.running.now c.requires.good c.args.point c.args.values c.requires.arrival.0 c.requires.arrival.1 c.index-2.result.now x_is c.index.result.now.places c.free-free.result needs c.free-free.ensures.free (omega (arith, c.if-needs-free.false)) in
    let fresh : next_of c.args.running.now.next < 2 ^ 64 = omega (arith, next_is c.args.running.now.next c.in-Some.cause c.in-Some.is, cause_in_range c.args.running.now.next c.in-Some.cause c.requires.good.next c.in-Some.is) in
    let same : c.index-2.result.now ≡ c.index_mut.result.now =
    same_at c.args.running.now.queues.items c.index-block.result.now.resource c.index-2.result.now c.index_mut.result.now at_b (stands_at c.args.running.now.queues.items c.index-block.result.now.resource c.index_mut.result.now c.index_mut.result.now (at.queue_in c.args.program.now c.args.running.now c.requires.good c.args.point c.args.values c.requires.arrival.0 c.requires.arrival.1 c.index-block.result.now b_is) c.index_mut.ensures.value) in
    subst (λ (x : Agenda). length x.tickets < x.room) same (at.fits_queue c.args.program.now c.args.running.now c.requires.good c.args.point c.args.values c.requires.arrival.0 c.requires.arrival.1 c.index-2.result.now x_is credit fresh)

pub open-requires-clause-reactions : goal.open-requires-clause-reactions
open-requires-clause-reactions c =
    let b_is = stands_at c.args.program.now.tables.blocks.items c.args.point.block c.index-block.result.now c.index-block.result.now (at.block_in c.args.program.now c.args.running.now c.requires.good c.args.point c.args.values c.requires.arrival.0 c.requires.arrival.1) c.index-block.ensures in
    let e_is = stands_at c.index-block.result.now.events.items c.args.point.event c.index.result.now c.index.result.now (at.event_in c.args.program.now c.args.running.now c.requires.good c.args.point c.args.values c.requires.arrival.0 c.requires.arrival.1 c.index-block.result.now b_is) c.index.ensures in
    let needs = at.places_of_event c.args.program.now c.args.running.now c.requires.good c.args.point c.args.values c.requires.arrival.0 c.requires.arrival.1 c.index-block.result.now b_is c.index.result.now e_is in
    let at_b = stands_at c.args.running.now.queues.items c.index-block.result.now.resource c.index-2.result.now c.index-2.result.now (at.queue_in c.args.program.now c.args.running.now c.requires.good c.args.point c.args.values c.requires.arrival.0 c.requires.arrival.1 c.index-block.result.now b_is) c.index-2.ensures in
    let x_is = at.queue_at_home c.args.program.now c.args.running.now c.requires.good c.args.point c.args.values c.requires.arrival.0 c.requires.arrival.1 c.index-block.result.now b_is c.index-2.result.now at_b in
    let credit = at.credit_of c.args.program.now c.args.running.now c.requires.good c.args.point c.args.values c.requires.arrival.0 c.requires.arrival.1 c.index-2.result.now x_is c.index.result.now.places c.free-free.result needs c.free-free.ensures.free (omega (arith, c.if-needs-free.false)) in
    let fresh : next_of c.args.running.now.next < 2 ^ 64 = omega (arith, next_is c.args.running.now.next c.in-Some.cause c.in-Some.is, cause_in_range c.args.running.now.next c.in-Some.cause c.requires.good.next c.in-Some.is) in
    let same : c.index-2.result.now ≡ c.index_mut.result.now =
    same_at c.args.running.now.queues.items c.index-block.result.now.resource c.index-2.result.now c.index_mut.result.now at_b (stands_at c.args.running.now.queues.items c.index-block.result.now.resource c.index_mut.result.now c.index_mut.result.now (at.queue_in c.args.program.now c.args.running.now c.requires.good c.args.point c.args.values c.requires.arrival.0 c.requires.arrival.1 c.index-block.result.now b_is) c.index_mut.ensures.value) in
    subst (λ (x : Agenda). reactions_in x.slots < x.room) same (at.fits_slots c.args.program.now c.args.running.now c.requires.good c.args.point c.args.values c.requires.arrival.0 c.requires.arrival.1 c.index-2.result.now x_is credit fresh)

pub open-requires-clause-places : goal.open-requires-clause-places
open-requires-clause-places c =
    let b_is = stands_at c.args.program.now.tables.blocks.items c.args.point.block c.index-block.result.now c.index-block.result.now (at.block_in c.args.program.now c.args.running.now c.requires.good c.args.point c.args.values c.requires.arrival.0 c.requires.arrival.1) c.index-block.ensures in
    let e_is = stands_at c.index-block.result.now.events.items c.args.point.event c.index.result.now c.index.result.now (at.event_in c.args.program.now c.args.running.now c.requires.good c.args.point c.args.values c.requires.arrival.0 c.requires.arrival.1 c.index-block.result.now b_is) c.index.ensures in
    let needs = at.places_of_event c.args.program.now c.args.running.now c.requires.good c.args.point c.args.values c.requires.arrival.0 c.requires.arrival.1 c.index-block.result.now b_is c.index.result.now e_is in
    let at_b = stands_at c.args.running.now.queues.items c.index-block.result.now.resource c.index-2.result.now c.index-2.result.now (at.queue_in c.args.program.now c.args.running.now c.requires.good c.args.point c.args.values c.requires.arrival.0 c.requires.arrival.1 c.index-block.result.now b_is) c.index-2.ensures in
    let x_is = at.queue_at_home c.args.program.now c.args.running.now c.requires.good c.args.point c.args.values c.requires.arrival.0 c.requires.arrival.1 c.index-block.result.now b_is c.index-2.result.now at_b in
    let credit = at.credit_of c.args.program.now c.args.running.now c.requires.good c.args.point c.args.values c.requires.arrival.0 c.requires.arrival.1 c.index-2.result.now x_is c.index.result.now.places c.free-free.result needs c.free-free.ensures.free (omega (arith, c.if-needs-free.false)) in
    let fresh : next_of c.args.running.now.next < 2 ^ 64 = omega (arith, next_is c.args.running.now.next c.in-Some.cause c.in-Some.is, cause_in_range c.args.running.now.next c.in-Some.cause c.requires.good.next c.in-Some.is) in
    let same : c.index-2.result.now ≡ c.index_mut.result.now =
    same_at c.args.running.now.queues.items c.index-block.result.now.resource c.index-2.result.now c.index_mut.result.now at_b (stands_at c.args.running.now.queues.items c.index-block.result.now.resource c.index_mut.result.now c.index_mut.result.now (at.queue_in c.args.program.now c.args.running.now c.requires.good c.args.point c.args.values c.requires.arrival.0 c.requires.arrival.1 c.index-block.result.now b_is) c.index_mut.ensures.value) in
    subst (λ (x : Agenda). all_places x.slots + c.index.result.now.places ≤ x.room) same (omega (arith, credit, needs))

pub open-requires-clause-cause : goal.open-requires-clause-cause
open-requires-clause-cause c =
    let b_is = stands_at c.args.program.now.tables.blocks.items c.args.point.block c.index-block.result.now c.index-block.result.now (at.block_in c.args.program.now c.args.running.now c.requires.good c.args.point c.args.values c.requires.arrival.0 c.requires.arrival.1) c.index-block.ensures in
    let e_is = stands_at c.index-block.result.now.events.items c.args.point.event c.index.result.now c.index.result.now (at.event_in c.args.program.now c.args.running.now c.requires.good c.args.point c.args.values c.requires.arrival.0 c.requires.arrival.1 c.index-block.result.now b_is) c.index.ensures in
    let needs = at.places_of_event c.args.program.now c.args.running.now c.requires.good c.args.point c.args.values c.requires.arrival.0 c.requires.arrival.1 c.index-block.result.now b_is c.index.result.now e_is in
    let at_b = stands_at c.args.running.now.queues.items c.index-block.result.now.resource c.index-2.result.now c.index-2.result.now (at.queue_in c.args.program.now c.args.running.now c.requires.good c.args.point c.args.values c.requires.arrival.0 c.requires.arrival.1 c.index-block.result.now b_is) c.index-2.ensures in
    let x_is = at.queue_at_home c.args.program.now c.args.running.now c.requires.good c.args.point c.args.values c.requires.arrival.0 c.requires.arrival.1 c.index-block.result.now b_is c.index-2.result.now at_b in
    let credit = at.credit_of c.args.program.now c.args.running.now c.requires.good c.args.point c.args.values c.requires.arrival.0 c.requires.arrival.1 c.index-2.result.now x_is c.index.result.now.places c.free-free.result needs c.free-free.ensures.free (omega (arith, c.if-needs-free.false)) in
    let fresh : next_of c.args.running.now.next < 2 ^ 64 = omega (arith, next_is c.args.running.now.next c.in-Some.cause c.in-Some.is, cause_in_range c.args.running.now.next c.in-Some.cause c.requires.good.next c.in-Some.is) in
    let same : c.index-2.result.now ≡ c.index_mut.result.now =
    same_at c.args.running.now.queues.items c.index-block.result.now.resource c.index-2.result.now c.index_mut.result.now at_b (stands_at c.args.running.now.queues.items c.index-block.result.now.resource c.index_mut.result.now c.index_mut.result.now (at.queue_in c.args.program.now c.args.running.now c.requires.good c.args.point c.args.values c.requires.arrival.0 c.requires.arrival.1 c.index-block.result.now b_is) c.index_mut.ensures.value) in
    subst (λ (x : Agenda). IsNew c.in-Some.cause x.slots) same
    (subst (λ n. IsNew n c.index-2.result.now.slots) (next_is c.args.running.now.next c.in-Some.cause c.in-Some.is) (at.is_new c.args.program.now c.args.running.now c.requires.good c.args.point c.args.values c.requires.arrival.0 c.requires.arrival.1 c.index-2.result.now x_is credit fresh))

pub returns-clause-admits : goal.returns-clause-admits
returns-clause-admits c = λ a is.
    let b_is = stands_at c.args.program.now.tables.blocks.items c.args.point.block c.index-block.result.now c.index-block.result.now (at.block_in c.args.program.now c.args.running.now c.requires.good c.args.point c.args.values a is) c.index-block.ensures in
    let e_is = stands_at c.index-block.result.now.events.items c.args.point.event c.index.result.now c.index.result.now (at.event_in c.args.program.now c.args.running.now c.requires.good c.args.point c.args.values a is c.index-block.result.now b_is) c.index.ensures in
    let needs = at.places_of_event c.args.program.now c.args.running.now c.requires.good c.args.point c.args.values a is c.index-block.result.now b_is c.index.result.now e_is in
    let at_b = stands_at c.args.running.now.queues.items c.index-block.result.now.resource c.index-2.result.now c.index-2.result.now (at.queue_in c.args.program.now c.args.running.now c.requires.good c.args.point c.args.values a is c.index-block.result.now b_is) c.index-2.ensures in
    let x_is = at.queue_at_home c.args.program.now c.args.running.now c.requires.good c.args.point c.args.values a is c.index-block.result.now b_is c.index-2.result.now at_b in
    let credit = at.credit_of c.args.program.now c.args.running.now c.requires.good c.args.point c.args.values a is c.index-2.result.now x_is c.index.result.now.places c.free-free.result needs c.free-free.ensures.free (omega (arith, c.if-needs-free.false)) in
    let fresh : next_of c.args.running.now.next < 2 ^ 64 = omega (arith, next_is c.args.running.now.next c.in-Some.cause c.in-Some.is, cause_in_range c.args.running.now.next c.in-Some.cause c.requires.good.next c.in-Some.is) in
    let same : c.index-2.result.now ≡ c.index_mut.result.now =
    same_at c.args.running.now.queues.items c.index-block.result.now.resource c.index-2.result.now c.index_mut.result.now at_b (stands_at c.args.running.now.queues.items c.index-block.result.now.resource c.index_mut.result.now c.index_mut.result.now (at.queue_in c.args.program.now c.args.running.now c.requires.good c.args.point c.args.values a is c.index-block.result.now b_is) c.index_mut.ensures.value) in
    let number = next_is c.args.running.now.next c.in-Some.cause c.in-Some.is in
    let opens : Opens c.index-2.result.now (next_of c.args.running.now.next) c.args.point c.index.result.now.places c.args.values c.open.new.self =
    subst (λ n. Opens c.index-2.result.now n c.args.point c.index.result.now.places c.args.values c.open.new.self) (sym number)
    (subst (λ (x : Agenda). Opens x c.in-Some.cause c.args.point c.index.result.now.places c.args.values c.open.new.self) (sym same) c.open.ensures.opens) in
    let up = next_up c.checked_add-running.result c.in-Some.cause c.checked_add-running.ensures (omega (arith, fresh, number)) ∙ ap (λ n. n + 1) (sym number) in
    record {
      room = at.has_room c.args.program.now c.args.running.now c.requires.good c.args.point c.args.values a is c.index-2.result.now x_is credit fresh;
      cause_is = sym number;
      new_is = at.machine_is c.args.program.now c.args.running.now c.requires.good c.args.point c.args.values a is c.index-2.result.now x_is credit fresh c.open.new.self c.index.result.now.places c.open.ensures.sound opens needs
          (record { queues = with_item c.args.running.now.queues c.index-block.result.now.resource c.open.new.self; memory = c.args.running.now.memory; timers = c.args.running.now.timers; outbox = c.args.running.now.outbox; clock = c.args.running.now.clock; next = c.checked_add-running.result })
          (ap (λ h. set c.args.running.now.queues.items h c.open.new.self) (at.home_of c.args.program.now c.args.running.now c.requires.good c.args.point c.args.values a is c.index-block.result.now b_is)) refl refl refl refl up (next_in_range c.checked_add-running.result c.in-Some.cause c.checked_add-running.ensures);
    }

pub returns-clause-good : goal.returns-clause-good
returns-clause-good c =
    let b_is = stands_at c.args.program.now.tables.blocks.items c.args.point.block c.index-block.result.now c.index-block.result.now (at.block_in c.args.program.now c.args.running.now c.requires.good c.args.point c.args.values c.requires.arrival.0 c.requires.arrival.1) c.index-block.ensures in
    let e_is = stands_at c.index-block.result.now.events.items c.args.point.event c.index.result.now c.index.result.now (at.event_in c.args.program.now c.args.running.now c.requires.good c.args.point c.args.values c.requires.arrival.0 c.requires.arrival.1 c.index-block.result.now b_is) c.index.ensures in
    let needs = at.places_of_event c.args.program.now c.args.running.now c.requires.good c.args.point c.args.values c.requires.arrival.0 c.requires.arrival.1 c.index-block.result.now b_is c.index.result.now e_is in
    let at_b = stands_at c.args.running.now.queues.items c.index-block.result.now.resource c.index-2.result.now c.index-2.result.now (at.queue_in c.args.program.now c.args.running.now c.requires.good c.args.point c.args.values c.requires.arrival.0 c.requires.arrival.1 c.index-block.result.now b_is) c.index-2.ensures in
    let x_is = at.queue_at_home c.args.program.now c.args.running.now c.requires.good c.args.point c.args.values c.requires.arrival.0 c.requires.arrival.1 c.index-block.result.now b_is c.index-2.result.now at_b in
    let credit = at.credit_of c.args.program.now c.args.running.now c.requires.good c.args.point c.args.values c.requires.arrival.0 c.requires.arrival.1 c.index-2.result.now x_is c.index.result.now.places c.free-free.result needs c.free-free.ensures.free (omega (arith, c.if-needs-free.false)) in
    let fresh : next_of c.args.running.now.next < 2 ^ 64 = omega (arith, next_is c.args.running.now.next c.in-Some.cause c.in-Some.is, cause_in_range c.args.running.now.next c.in-Some.cause c.requires.good.next c.in-Some.is) in
    let same : c.index-2.result.now ≡ c.index_mut.result.now =
    same_at c.args.running.now.queues.items c.index-block.result.now.resource c.index-2.result.now c.index_mut.result.now at_b (stands_at c.args.running.now.queues.items c.index-block.result.now.resource c.index_mut.result.now c.index_mut.result.now (at.queue_in c.args.program.now c.args.running.now c.requires.good c.args.point c.args.values c.requires.arrival.0 c.requires.arrival.1 c.index-block.result.now b_is) c.index_mut.ensures.value) in
    let number = next_is c.args.running.now.next c.in-Some.cause c.in-Some.is in
    let opens : Opens c.index-2.result.now (next_of c.args.running.now.next) c.args.point c.index.result.now.places c.args.values c.open.new.self =
    subst (λ n. Opens c.index-2.result.now n c.args.point c.index.result.now.places c.args.values c.open.new.self) (sym number)
    (subst (λ (x : Agenda). Opens x c.in-Some.cause c.args.point c.index.result.now.places c.args.values c.open.new.self) (sym same) c.open.ensures.opens) in
    let up = next_up c.checked_add-running.result c.in-Some.cause c.checked_add-running.ensures (omega (arith, fresh, number)) ∙ ap (λ n. n + 1) (sym number) in
    at.good_so c.args.program.now c.args.running.now c.requires.good c.args.point c.args.values c.requires.arrival.0 c.requires.arrival.1 c.index-2.result.now x_is credit fresh c.open.new.self c.index.result.now.places c.open.ensures.sound opens needs
    (record { queues = with_item c.args.running.now.queues c.index-block.result.now.resource c.open.new.self; memory = c.args.running.now.memory; timers = c.args.running.now.timers; outbox = c.args.running.now.outbox; clock = c.args.running.now.clock; next = c.checked_add-running.result })
    (ap (λ h. set c.args.running.now.queues.items h c.open.new.self) (at.home_of c.args.program.now c.args.running.now c.requires.good c.args.point c.args.values c.requires.arrival.0 c.requires.arrival.1 c.index-block.result.now b_is)) refl refl refl refl up (next_in_range c.checked_add-running.result c.in-Some.cause c.checked_add-running.ensures)
