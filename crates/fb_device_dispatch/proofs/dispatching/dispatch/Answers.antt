use Rattle.std.proofs.Common.{Option, length, refl, sym, ◌∙◌, ap, subst, arith}
use Rattle.std.specs.Option.{option_map}
use Rattle.fb_model.specs.Wires.{leaves}
use Rattle.fb_model.specs.Devices.{Runs}
use Rattle.fb_device_tables.specs.Views.{place_at}
use Rattle.fb_device_state.specs.declared.program.Running.{Running}
use Rattle.fb_device_state.specs.Sessions.{session_of}
use Rattle.fb_device_state.specs.Machines.{device_in, cert_in, machine_of}
use Rattle.fb_device_state.specs.Numbers.{event_at, steps_in, IsKnown}
use Rattle.fb_chart.specs.Responses.{effect_of}
use Rattle.fb_device_dispatch.specs.Answers.{end_of}
use Rattle.fb_device_dispatch.specs.declared.answer.Ended.{Ended}
use Rattle.fb_device_dispatch.proofs.Happening as at
use Rattle.fb_device_dispatch.proofs.Kept as kept
use Rattle.fb_device_dispatch.proofs.Finished.{idle_good, can_dispatch_read, dispatched_read, block_within, can_retime_at, condition_within, can_enter, timed_as, opening_known, bound_is, capacity_same}
use Rattle.fb_device_dispatch.proofs.dispatching.dispatch.Goals as goal

pub returns-in_default-clause-good : goal.returns-in_default-clause-good
returns-in_default-clause-good c =
    idle_good c.args.program.now c.args.running.now
    (record { queues = c.take.new.queues; memory = c.args.running.now.memory; timers = c.args.running.now.timers; outbox = c.args.running.now.outbox; clock = c.args.running.now.clock; next = c.args.running.now.next })
    c.requires c.in_default.ensures.same refl refl refl refl refl refl

pub dispatch_block-steps_taken-requires : goal.dispatch_block-steps_taken-requires
dispatch_block-steps_taken-requires c = record { can = can_dispatch_read c.args.program.now c.args.running.now c.requires c.args.resource c.in-Some.first c.take.new.queues.items c.in-Some.ensures c.deref-2.result.now c.deref-3.result.now c.deref.result.now c.deref-2.ensures.value c.deref-3.ensures.value c.deref.ensures.0; effect = refl }

pub remembered-now-requires : goal.remembered-now-requires
remembered-now-requires c =
    let h = dispatched_read c.args.program.now c.args.running.now c.requires c.args.resource c.in-Some.first c.take.new.queues.items c.in-Some.ensures c.deref-2.result.now c.deref-3.result.now c.deref.result.now c.deref-2.ensures.value c.deref-3.ensures.value c.deref.ensures.0
    c.dispatch_block-steps_taken.new.memory c.dispatch_block-steps_taken.result c.dispatch_block-steps_taken.new.effect c.dispatch_block-steps_taken.new.emit.items c.dispatch_block-steps_taken.ensures.dispatched in
    condition_within c.args.program.now c.args.running.now c.requires c.args.resource c.in-Some.first c.take.new.queues.items c.in-Some.ensures c.dispatch_block-steps_taken.new.memory c.dispatch_block-steps_taken.result c.dispatch_block-steps_taken.new.effect c.dispatch_block-steps_taken.new.emit.items h

pub index-requires : goal.index-requires
index-requires c = block_within c.args.program.now c.args.running.now c.requires c.args.resource c.in-Some.first c.take.new.queues.items c.in-Some.ensures

pub retime-requires : goal.retime-requires
retime-requires c = can_retime_at c.args.program.now c.args.running.now c.requires c.args.resource c.in-Some.first c.take.new.queues.items c.in-Some.ensures _

pub enter-ended-requires : goal.enter-ended-requires
enter-ended-requires c =
    let h = dispatched_read c.args.program.now c.args.running.now c.requires c.args.resource c.in-Some.first c.take.new.queues.items c.in-Some.ensures c.deref-2.result.now c.deref-3.result.now c.deref.result.now c.deref-2.ensures.value c.deref-3.ensures.value c.deref.ensures.0
    c.dispatch_block-steps_taken.new.memory c.dispatch_block-steps_taken.result c.dispatch_block-steps_taken.new.effect c.dispatch_block-steps_taken.new.emit.items c.dispatch_block-steps_taken.ensures.dispatched in
    can_enter c.args.program.now c.args.running.now c.requires c.args.resource c.in-Some.first c.take.new.queues.items c.in-Some.ensures c.dispatch_block-steps_taken.new.memory c.dispatch_block-steps_taken.result c.dispatch_block-steps_taken.new.effect c.dispatch_block-steps_taken.new.emit.items h

pub steps_at-bound-requires : goal.steps_at-bound-requires
steps_at-bound-requires c =
    let h = dispatched_read c.args.program.now c.args.running.now c.requires c.args.resource c.in-Some.first c.take.new.queues.items c.in-Some.ensures c.deref-2.result.now c.deref-3.result.now c.deref.result.now c.deref-2.ensures.value c.deref-3.ensures.value c.deref.ensures.0
    c.dispatch_block-steps_taken.new.memory c.dispatch_block-steps_taken.result c.dispatch_block-steps_taken.new.effect c.dispatch_block-steps_taken.new.emit.items c.dispatch_block-steps_taken.ensures.dispatched in
    subst (λ xs. IsKnown xs c.enter-ended.result.0.opening) (sym c.deref-4.ensures.value)
    (opening_known c.args.program.now c.args.running.now c.requires c.args.resource c.in-Some.first c.take.new.queues.items c.in-Some.ensures c.dispatch_block-steps_taken.new.memory c.dispatch_block-steps_taken.result c.dispatch_block-steps_taken.new.effect c.dispatch_block-steps_taken.new.emit.items h
    c.enter-ended.result.0 c.enter-ended.result.1 c.enter-ended.new.queues.items c.enter-ended.ensures.entered)

pub returns-clause-step : goal.returns-clause-step
returns-clause-step c =
    let h = dispatched_read c.args.program.now c.args.running.now c.requires c.args.resource c.in-Some.first c.take.new.queues.items c.in-Some.ensures c.deref-2.result.now c.deref-3.result.now c.deref.result.now c.deref-2.ensures.value c.deref-3.ensures.value c.deref.ensures.0
    c.dispatch_block-steps_taken.new.memory c.dispatch_block-steps_taken.result c.dispatch_block-steps_taken.new.effect c.dispatch_block-steps_taken.new.emit.items c.dispatch_block-steps_taken.ensures.dispatched in
    let new : Running = record { queues = c.enter-ended.new.queues; memory = c.dispatch_block-steps_taken.new.memory; timers = c.retime.new.timers; outbox = c.enter-ended.new.outbox; clock = c.args.running.now.clock; next = c.args.running.now.next } in
    let s = session_of c.args.program.now c.args.running.now in
    let bound = bound_is c.args.program.now c.args.running.now c.requires c.args.resource c.in-Some.first c.take.new.queues.items c.in-Some.ensures c.dispatch_block-steps_taken.new.memory c.dispatch_block-steps_taken.result c.dispatch_block-steps_taken.new.effect c.dispatch_block-steps_taken.new.emit.items h
    c.enter-ended.result.0 c.enter-ended.result.1 c.enter-ended.new.queues.items c.enter-ended.ensures.entered c.steps_at-bound.result (c.steps_at-bound.ensures ∙ ap (λ xs. steps_in (event_at xs c.enter-ended.result.0.opening)) c.deref-4.ensures.value) in
    subst (λ (o : Option Ended). Runs (cert_in s) (device_in s) (machine_of s) c.args.resource c.enter-ended.result.0.cause (place_at (leaves (device_in s)) c.in-Some.first.point) c.dispatch_block-steps_taken.result (effect_of c.dispatch_block-steps_taken.new.effect) (option_map end_of o) (machine_of (session_of c.args.program.now new)))
    (sym c.end_of.ensures)
    (kept.happens c.args.program.now c.args.running.now c.requires c.args.resource c.in-Some.first c.take.new.queues.items c.in-Some.ensures c.dispatch_block-steps_taken.new.memory c.dispatch_block-steps_taken.result c.dispatch_block-steps_taken.new.effect c.dispatch_block-steps_taken.new.emit.items h
    c.enter-ended.result.0 c.enter-ended.result.1 c.enter-ended.new.queues.items c.enter-ended.ensures.entered new refl refl refl refl c.steps_at-bound.result bound)

pub returns-clause-point : goal.returns-clause-point
returns-clause-point c = (at.placed c.args.program.now c.args.running.now c.requires c.args.resource c.in-Some.first c.take.new.queues.items c.in-Some.ensures).0

pub returns-clause-good : goal.returns-clause-good
returns-clause-good c =
    let h = dispatched_read c.args.program.now c.args.running.now c.requires c.args.resource c.in-Some.first c.take.new.queues.items c.in-Some.ensures c.deref-2.result.now c.deref-3.result.now c.deref.result.now c.deref-2.ensures.value c.deref-3.ensures.value c.deref.ensures.0
    c.dispatch_block-steps_taken.new.memory c.dispatch_block-steps_taken.result c.dispatch_block-steps_taken.new.effect c.dispatch_block-steps_taken.new.emit.items c.dispatch_block-steps_taken.ensures.dispatched in
    let new : Running = record { queues = c.enter-ended.new.queues; memory = c.dispatch_block-steps_taken.new.memory; timers = c.retime.new.timers; outbox = c.enter-ended.new.outbox; clock = c.args.running.now.clock; next = c.args.running.now.next } in
    kept.good c.args.program.now c.args.running.now c.requires c.args.resource c.in-Some.first c.take.new.queues.items c.in-Some.ensures c.dispatch_block-steps_taken.new.memory c.dispatch_block-steps_taken.result c.dispatch_block-steps_taken.new.effect c.dispatch_block-steps_taken.new.emit.items h
    c.enter-ended.result.0 c.enter-ended.result.1 c.enter-ended.new.queues.items c.enter-ended.ensures.entered new refl refl refl refl
    (timed_as c.args.program.now c.args.running.now c.requires c.args.resource c.in-Some.first c.take.new.queues.items c.in-Some.ensures c.dispatch_block-steps_taken.new.memory c.dispatch_block-steps_taken.result c.dispatch_block-steps_taken.new.effect c.dispatch_block-steps_taken.new.emit.items h
    c.index.result.now c.index.ensures c.remembered-now.result c.remembered-now.ensures c.retime.new.timers c.retime.ensures.timed)
    (omega (arith, c.retime.ensures.room)) c.enter-ended.ensures.empty
    (c.enter-ended.ensures.room ∙ capacity_same c.args.running.now.outbox.capacity c.dispatch_block-steps_taken.new.emit.capacity (length c.args.running.now.outbox.items) (length c.dispatch_block-steps_taken.new.emit.items) c.dispatch_block-steps_taken.ensures.room (ap length c.requires.outbox) c.enter-ended.ensures.within)
