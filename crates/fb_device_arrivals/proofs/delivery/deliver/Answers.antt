use Rattle.std.proofs.Common.{refl, sym, ◌∙◌, ap, subst, arith}
use Rattle.fb_model.specs.Devices.{arriving, IsShaped}
use Rattle.fb_wire.specs.Views.{purpose_of}
use Rattle.fb_device_state.specs.Sessions.{session_of}
use Rattle.fb_device_state.specs.Machines.{machine_of}
use Rattle.fb_lists.proofs.Lists.{stands_at}
use Rattle.fb_device_arrivals.specs.Delivering.{IsReceived}
use Rattle.fb_device_arrivals.proofs.Deliveries as deliveries
use Rattle.fb_device_arrivals.proofs.delivery.deliver.Goals as goal

pub returns-in-Err-clause-step : goal.returns-in-Err-clause-step
returns-in-Err-clause-step c = (c.in-Err.ensures.fault, refl)

pub returns-in-ToChannel-clause-step : goal.returns-in-ToChannel-clause-step
returns-in-ToChannel-clause-step c = ((c.in-Ok.message, c.in-Ok.ensures.spelled, sym c.purpose-purpose.ensures ∙ ap purpose_of c.in-ToChannel.is, deliveries.none_meant c.args.program.now c.args.running.now c.requires c.in-Ok.message (sym c.meant.ensures ∙ c.in_default.is)), refl)

pub returns-in-ToInput-clause-step : goal.returns-in-ToInput-clause-step
returns-in-ToInput-clause-step c = ((c.in-Ok.message, c.in-Ok.ensures.spelled, sym c.purpose-purpose.ensures ∙ ap purpose_of c.in-ToInput.is, deliveries.none_meant c.args.program.now c.args.running.now c.requires c.in-Ok.message (sym c.meant.ensures ∙ c.in_default.is)), refl)

pub index-requires : goal.index-requires
index-requires c = omega (arith, deliveries.inside c.args.program.now c.args.running.now c.requires c.in-Ok.message c.in-Some.block (sym c.meant.ensures ∙ c.in-Some.is), c.args.program.now.tables.blocks.ok)

pub returns-in_default-received-clause-step : goal.returns-in_default-received-clause-step
returns-in_default-received-clause-step c =
    let p = c.args.program.now in
    let r = c.args.running.now in
    let found = sym c.meant.ensures ∙ c.in-Some.is in
    let stands = stands_at p.tables.blocks.items c.in-Some.block c.index.result.now c.index.result.now (deliveries.inside p r c.requires c.in-Ok.message c.in-Some.block found) c.index.ensures in
    let kind = deliveries.kind_is p r c.requires c.in-Ok.message c.in-Some.block found c.index.result.now stands in
    ((c.in-Ok.message, (deliveries.at p r c.requires c.in-Ok.message c.in-Some.block found).leaf, c.in-Ok.ensures.spelled, deliveries.known p r c.requires c.in-Ok.message c.in-Some.block found, subst (λ k. IsShaped k c.in-Ok.message → ⊥) kind c.in_default-received.ensures), refl)

pub index-condition-requires : goal.index-condition-requires
index-condition-requires c = omega (arith, deliveries.remembered c.args.program.now c.args.running.now c.requires c.in-Ok.message c.in-Some.block (sym c.meant.ensures ∙ c.in-Some.is), c.args.running.now.memory.conditions.ok)

pub returns-then-is_closed-clause-step : goal.returns-then-is_closed-clause-step
returns-then-is_closed-clause-step c =
    let p = c.args.program.now in
    let r = c.args.running.now in
    let found = sym c.meant.ensures ∙ c.in-Some.is in
    let remembers = stands_at r.memory.conditions.items c.in-Some.block c.index-condition.result.now c.index-condition.result.now (deliveries.remembered p r c.requires c.in-Ok.message c.in-Some.block found) c.index-condition.ensures in (
      (
        c.in-Ok.message,
        (deliveries.at p r c.requires c.in-Ok.message c.in-Some.block found).leaf,
        c.in-Ok.ensures.spelled,
        deliveries.known p r c.requires c.in-Ok.message c.in-Some.block found,
        deliveries.closed p r c.requires c.in-Ok.message c.in-Some.block found c.purpose-purpose.result c.purpose-purpose.ensures c.index-condition.result.now remembers (sym c.is_closed.ensures ∙ c.if-is_closed.true),
      ),
      refl,
    )

pub returns-in-Some-stale-clause-step : goal.returns-in-Some-stale-clause-step
returns-in-Some-stale-clause-step c =
    let p = c.args.program.now in
    let r = c.args.running.now in
    let found = sym c.meant.ensures ∙ c.in-Some.is in
    let remembers = stands_at r.memory.conditions.items c.in-Some.block c.index-condition.result.now c.index-condition.result.now (deliveries.remembered p r c.requires c.in-Ok.message c.in-Some.block found) c.index-condition.ensures in
    ((c.in-Ok.message, (deliveries.at p r c.requires c.in-Ok.message c.in-Some.block found).leaf, c.in-Ok.ensures.spelled, deliveries.known p r c.requires c.in-Ok.message c.in-Some.block found, deliveries.stale p r c.requires c.in-Ok.message c.in-Some.block found c.purpose-purpose.result c.purpose-purpose.ensures c.index-condition.result.now remembers c.stamp-stamp.result c.stamp-stamp.ensures.stamp c.in-Some-stale.last (sym c.stale.ensures ∙ c.in-Some-stale.is)), refl)

pub admit_stamped-requires-clause-arrival : goal.admit_stamped-requires-clause-arrival
admit_stamped-requires-clause-arrival c =
    let p = c.args.program.now in
    let r = c.args.running.now in
    let found = sym c.meant.ensures ∙ c.in-Some.is in
    let remembers = stands_at r.memory.conditions.items c.in-Some.block c.index-condition.result.now c.index-condition.result.now (deliveries.remembered p r c.requires c.in-Ok.message c.in-Some.block found) c.index-condition.ensures in
    let stands = stands_at p.tables.blocks.items c.in-Some.block c.index.result.now c.index.result.now (deliveries.inside p r c.requires c.in-Ok.message c.in-Some.block found) c.index.ensures in
    let received = subst (λ k. IsReceived k c.in-Ok.message c.in-Some-received.values.items) (deliveries.kind_is p r c.requires c.in-Ok.message c.in-Some.block found c.index.result.now stands) c.in-Some-received.ensures in
    let unclosed = sym c.is_closed.ensures ∙ c.if-is_closed.false in
    (arriving (deliveries.at p r c.requires c.in-Ok.message c.in-Some.block found).leaf c.in-Some-received.values.items, deliveries.arrival p r c.requires c.in-Ok.message c.in-Some.block found c.purpose-purpose.result c.purpose-purpose.ensures c.index-condition.result.now remembers c.stamp-stamp.result c.stamp-stamp.ensures.stamp c.stamp-stamp.ensures.stamped c.in-Some-received.values.items received unclosed c.arrival-event.result c.arrival-event.ensures)

pub admit_stamped-requires-clause-keeps : goal.admit_stamped-requires-clause-keeps
admit_stamped-requires-clause-keeps c =
    let p = c.args.program.now in
    let r = c.args.running.now in
    let found = sym c.meant.ensures ∙ c.in-Some.is in
    let remembers = stands_at r.memory.conditions.items c.in-Some.block c.index-condition.result.now c.index-condition.result.now (deliveries.remembered p r c.requires c.in-Ok.message c.in-Some.block found) c.index-condition.ensures in
    let stands = stands_at p.tables.blocks.items c.in-Some.block c.index.result.now c.index.result.now (deliveries.inside p r c.requires c.in-Ok.message c.in-Some.block found) c.index.ensures in
    let received = subst (λ k. IsReceived k c.in-Ok.message c.in-Some-received.values.items) (deliveries.kind_is p r c.requires c.in-Ok.message c.in-Some.block found c.index.result.now stands) c.in-Some-received.ensures in
    let unclosed = sym c.is_closed.ensures ∙ c.if-is_closed.false in
    deliveries.keeps p r c.requires c.in-Ok.message c.in-Some.block found c.purpose-purpose.result c.purpose-purpose.ensures c.index-condition.result.now remembers c.stamp-stamp.result c.stamp-stamp.ensures.stamp c.stamp-stamp.ensures.stamped c.in-Some-received.values.items received unclosed

pub returns-in-Ok-admit_stamped-clause-step : goal.returns-in-Ok-admit_stamped-clause-step
returns-in-Ok-admit_stamped-clause-step c =
    let p = c.args.program.now in
    let r = c.args.running.now in
    let found = sym c.meant.ensures ∙ c.in-Some.is in
    let remembers = stands_at r.memory.conditions.items c.in-Some.block c.index-condition.result.now c.index-condition.result.now (deliveries.remembered p r c.requires c.in-Ok.message c.in-Some.block found) c.index-condition.ensures in
    let stands = stands_at p.tables.blocks.items c.in-Some.block c.index.result.now c.index.result.now (deliveries.inside p r c.requires c.in-Ok.message c.in-Some.block found) c.index.ensures in
    let received = subst (λ k. IsReceived k c.in-Ok.message c.in-Some-received.values.items) (deliveries.kind_is p r c.requires c.in-Ok.message c.in-Some.block found c.index.result.now stands) c.in-Some-received.ensures in
    let unclosed = sym c.is_closed.ensures ∙ c.if-is_closed.false in
    deliveries.delivered p r c.requires c.in-Ok.message c.in-Some.block found c.purpose-purpose.result c.purpose-purpose.ensures c.index-condition.result.now remembers c.stamp-stamp.result c.stamp-stamp.ensures.stamp c.stamp-stamp.ensures.stamped c.in-Some-received.values.items received unclosed c.args.bytes.now c.in-Ok-admit_stamped.cause (machine_of (session_of p c.admit_stamped.new.running)) c.in-Ok.ensures.spelled (sym c.stale.ensures ∙ c.in-None.is)
    (c.in-Ok-admit_stamped.ensures.admits (arriving (deliveries.at p r c.requires c.in-Ok.message c.in-Some.block found).leaf c.in-Some-received.values.items) (deliveries.arrival p r c.requires c.in-Ok.message c.in-Some.block found c.purpose-purpose.result c.purpose-purpose.ensures c.index-condition.result.now remembers c.stamp-stamp.result c.stamp-stamp.ensures.stamp c.stamp-stamp.ensures.stamped c.in-Some-received.values.items received unclosed c.arrival-event.result c.arrival-event.ensures))

pub returns-in-Err-Places-clause-step : goal.returns-in-Err-Places-clause-step
returns-in-Err-Places-clause-step c =
    let p = c.args.program.now in
    let r = c.args.running.now in
    let found = sym c.meant.ensures ∙ c.in-Some.is in
    let remembers = stands_at r.memory.conditions.items c.in-Some.block c.index-condition.result.now c.index-condition.result.now (deliveries.remembered p r c.requires c.in-Ok.message c.in-Some.block found) c.index-condition.ensures in
    let stands = stands_at p.tables.blocks.items c.in-Some.block c.index.result.now c.index.result.now (deliveries.inside p r c.requires c.in-Ok.message c.in-Some.block found) c.index.ensures in
    let received = subst (λ k. IsReceived k c.in-Ok.message c.in-Some-received.values.items) (deliveries.kind_is p r c.requires c.in-Ok.message c.in-Some.block found c.index.result.now stands) c.in-Some-received.ensures in
    let unclosed = sym c.is_closed.ensures ∙ c.if-is_closed.false in
    let short = (rw c.in-Err-Places.field-0-is at c.in-Err-Places.ensures.short) (arriving (deliveries.at p r c.requires c.in-Ok.message c.in-Some.block found).leaf c.in-Some-received.values.items) (deliveries.arrival p r c.requires c.in-Ok.message c.in-Some.block found c.purpose-purpose.result c.purpose-purpose.ensures c.index-condition.result.now remembers c.stamp-stamp.result c.stamp-stamp.ensures.stamp c.stamp-stamp.ensures.stamped c.in-Some-received.values.items received unclosed c.arrival-event.result c.arrival-event.ensures) in
    ((c.in-Ok.message, (deliveries.at p r c.requires c.in-Ok.message c.in-Some.block found).leaf, c.in-Ok.ensures.spelled, deliveries.known p r c.requires c.in-Ok.message c.in-Some.block found, short.0), short.1)

pub returns-in-Err-Numbers-clause-step : goal.returns-in-Err-Numbers-clause-step
returns-in-Err-Numbers-clause-step c =
    let p = c.args.program.now in
    let r = c.args.running.now in
    let found = sym c.meant.ensures ∙ c.in-Some.is in
    let remembers = stands_at r.memory.conditions.items c.in-Some.block c.index-condition.result.now c.index-condition.result.now (deliveries.remembered p r c.requires c.in-Ok.message c.in-Some.block found) c.index-condition.ensures in
    let stands = stands_at p.tables.blocks.items c.in-Some.block c.index.result.now c.index.result.now (deliveries.inside p r c.requires c.in-Ok.message c.in-Some.block found) c.index.ensures in
    let received = subst (λ k. IsReceived k c.in-Ok.message c.in-Some-received.values.items) (deliveries.kind_is p r c.requires c.in-Ok.message c.in-Some.block found c.index.result.now stands) c.in-Some-received.ensures in
    let unclosed = sym c.is_closed.ensures ∙ c.if-is_closed.false in
    (rw c.in-Err-Numbers.field-0-is at c.in-Err-Numbers.ensures.short) (arriving (deliveries.at p r c.requires c.in-Ok.message c.in-Some.block found).leaf c.in-Some-received.values.items) (deliveries.arrival p r c.requires c.in-Ok.message c.in-Some.block found c.purpose-purpose.result c.purpose-purpose.ensures c.index-condition.result.now remembers c.stamp-stamp.result c.stamp-stamp.ensures.stamp c.stamp-stamp.ensures.stamped c.in-Some-received.values.items received unclosed c.arrival-event.result c.arrival-event.ensures)
