use Rattle.std.proofs.Common.{sym, subst, arith, inl, inr}
use Rattle.fb_world_course.specs.declared.answer.WorldEvent.{WorldEvent}
use Rattle.fb_world_course.specs.Answers.{event_of, device_of}
use Rattle.fb_world_course.specs.Keeping.{Goes}
use Rattle.fb_world_course.specs.Room.{opens_at_most, dispatches_in, Uses}
use Rattle.fb_model.specs.World.{Unknown, An_offer, A_tick, A_dispatch}
use Rattle.fb_world_course.proofs.Kept.{unknown_device, unknown_there, unknown_sent}
use Rattle.fb_world_course.proofs.Rooms.{uses_none}
use Rattle.fb_world_course.proofs.course.Course.happen.Goals.{in_default-via-in-Offer+else-device-count, in_default-via-in-Tick+else-device-count-2, in_default-via-in-Dispatch+else-device-count-3, in_default-via-in-Deliver+then-device-count-4+then-number-gt0+else-number-len, in_default-via-in-Deliver+then-device-count-4+else-number-gt0, in_default-via-in-Deliver+else-device-count-4}
use Rattle.fb_world_course.proofs.course.Course.happen.Goals as goal

pub returns-in-Offer-clause-uses : goal.returns-in-Offer-clause-uses
returns-in-Offer-clause-uses c = subst (λ (e : WorldEvent). Uses c.args.self.now c.offer.new.self (device_of e) (opens_at_most c.args.self.now.stations.items e) (dispatches_in e)) (sym c.in-Offer.is) c.offer.ensures.uses

pub returns-in-Tick-clause-uses : goal.returns-in-Tick-clause-uses
returns-in-Tick-clause-uses c = subst (λ (e : WorldEvent). Uses c.args.self.now c.tick.new.self (device_of e) (opens_at_most c.args.self.now.stations.items e) (dispatches_in e)) (sym c.in-Tick.is) c.tick.ensures.uses

pub returns-in-Dispatch-clause-uses : goal.returns-in-Dispatch-clause-uses
returns-in-Dispatch-clause-uses c = subst (λ (e : WorldEvent). Uses c.args.self.now c.serve.new.self (device_of e) (opens_at_most c.args.self.now.stations.items e) (dispatches_in e)) (sym c.in-Dispatch.is) c.serve.ensures.uses

pub returns-in-Deliver-clause-uses : goal.returns-in-Deliver-clause-uses
returns-in-Deliver-clause-uses c = subst (λ (e : WorldEvent). Uses c.args.self.now c.deliver.new.self (device_of e) (opens_at_most c.args.self.now.stations.items e) (dispatches_in e)) (sym c.in-Deliver.is) c.deliver.ensures.uses

pub returns-in_default-clause-uses : goal.returns-in_default-clause-uses
returns-in_default-clause-uses c = uses_none c.args.self.now (device_of c.args.event.now) (opens_at_most c.args.self.now.stations.items c.args.event.now) (dispatches_in c.args.event.now)

pub returns-in_default-clause-goes : goal.returns-in_default-clause-goes
returns-in_default-clause-goes c = λ v k. elim c.in_default.branch [
  | in_default-via-in-Offer+else-device-count w ↦ subst (λ (e : WorldEvent). Goes v c.args.self.now (event_of e) Unknown c.args.self.now) (sym w.in-Offer.is) (unknown_device v c.args.self.now k w.in-Offer.device (An_offer w.in-Offer.input w.in-Offer.values.items) (omega (arith, w.if-device-count.false, c.len-count.ensures)))
  | in_default-via-in-Tick+else-device-count-2 w ↦ subst (λ (e : WorldEvent). Goes v c.args.self.now (event_of e) Unknown c.args.self.now) (sym w.in-Tick.is) (unknown_device v c.args.self.now k w.in-Tick.device (A_tick w.in-Tick.now) (omega (arith, w.if-device-count-2.false, c.len-count.ensures)))
  | in_default-via-in-Dispatch+else-device-count-3 w ↦ subst (λ (e : WorldEvent). Goes v c.args.self.now (event_of e) Unknown c.args.self.now) (sym w.in-Dispatch.is) (unknown_device v c.args.self.now k w.in-Dispatch.device (A_dispatch w.in-Dispatch.resource) (omega (arith, w.if-device-count-3.false, c.len-count.ensures)))
  | in_default-via-in-Deliver+then-device-count-4+then-number-gt0+else-number-len w ↦ subst (λ (e : WorldEvent). Goes v c.args.self.now (event_of e) Unknown c.args.self.now) (sym w.in-Deliver.is) (unknown_sent v c.args.self.now k w.in-Deliver.number w.in-Deliver.device (inr (omega (arith, w.if-number-len.false, w.len.ensures))))
  | in_default-via-in-Deliver+then-device-count-4+else-number-gt0 w ↦ subst (λ (e : WorldEvent). Goes v c.args.self.now (event_of e) Unknown c.args.self.now) (sym w.in-Deliver.is) (unknown_sent v c.args.self.now k w.in-Deliver.number w.in-Deliver.device (inl (omega (arith, w.if-number-gt0.false))))
  | in_default-via-in-Deliver+else-device-count-4 w ↦ subst (λ (e : WorldEvent). Goes v c.args.self.now (event_of e) Unknown c.args.self.now) (sym w.in-Deliver.is) (unknown_there v c.args.self.now k w.in-Deliver.number w.in-Deliver.device (omega (arith, w.if-device-count-4.false, c.len-count.ensures)))
]
