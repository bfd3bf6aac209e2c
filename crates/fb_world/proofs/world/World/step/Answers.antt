use Rattle.std.proofs.Common.{subst}
use Rattle.fb_model.specs.World.{WorldHappens}
use Rattle.fb_verified.specs.Checked.{system_in, certificate_in}
use Rattle.fb_world_course.specs.Scenes.{Scene, world_of, world_in}
use Rattle.fb_world_course.specs.Answers.{event_of, device_of, leaves_at, answer_of}
use Rattle.fb_model.specs.Causes.{Falls}
use Rattle.fb_world.proofs.Bounds.{falls}
use Rattle.fb_world_course.proofs.Kept.{scene_same, kept_same, kept_more, on_err}
use Rattle.fb_world.proofs.world.World.step.Goals as goal

pub invariant_of-self : goal.invariant_of-self
invariant_of-self c = kept_same c.self.inside.verified.value c.self.inside.course c.reserve.new.self c.reserve.ensures.same c.self.invariant

pub returns-in_err-reserve-clause-unchanged : goal.returns-in_err-reserve-clause-unchanged
returns-in_err-reserve-clause-unchanged c = on_err c.from_residual.result (rw (← c.self.view_is) (scene_same c.self.inside.verified.value c.self.inside.course c.reserve.new.self c.reserve.ensures.same))

pub happen-requires-clause-kept : goal.happen-requires-clause-kept
happen-requires-clause-kept c = (c.self.inside.verified.value, kept_same c.self.inside.verified.value c.self.inside.course c.reserve.new.self c.reserve.ensures.same c.self.invariant)

pub invariant_of-self-2 : goal.invariant_of-self-2
invariant_of-self-2 c =
    let k = kept_same c.self.inside.verified.value c.self.inside.course c.reserve.new.self c.reserve.ensures.same c.self.invariant in
    kept_more c.self.inside.verified.value c.reserve.new.self c.happen.new.self (event_of c.args.event.now) (answer_of (leaves_at (system_in c.self.inside.verified.value) (device_of c.args.event.now)) c.happen.result) k (c.happen.ensures.goes c.self.inside.verified.value k)

pub returns-clause-happens : goal.returns-clause-happens
returns-clause-happens c =
    let k = kept_same c.self.inside.verified.value c.self.inside.course c.reserve.new.self c.reserve.ensures.same c.self.invariant in
    rw (← c.self.view_is) (subst (λ (s : Scene). WorldHappens (system_in c.self.inside.verified.value) (certificate_in c.self.inside.verified.value) (world_of s) (event_of c.args.event.now) (answer_of (leaves_at (system_in c.self.inside.verified.value) (device_of c.args.event.now)) c.happen.result) (world_in c.self.inside.verified.value c.happen.new.self))
    (scene_same c.self.inside.verified.value c.self.inside.course c.reserve.new.self c.reserve.ensures.same) (c.happen.ensures.goes c.self.inside.verified.value k).happens)

pub returns-clause-falls : goal.returns-clause-falls
returns-clause-falls c =
    let k = kept_same c.self.inside.verified.value c.self.inside.course c.reserve.new.self c.reserve.ensures.same c.self.invariant in
    rw (← c.self.view_is) (subst (λ (s : Scene). Falls (system_in c.self.inside.verified.value) (certificate_in c.self.inside.verified.value) (world_of s) (event_of c.args.event.now) (answer_of (leaves_at (system_in c.self.inside.verified.value) (device_of c.args.event.now)) c.happen.result) (world_in c.self.inside.verified.value c.happen.new.self))
    (scene_same c.self.inside.verified.value c.self.inside.course c.reserve.new.self c.reserve.ensures.same)
    (falls c.self.inside.verified.value (world_in c.self.inside.verified.value c.reserve.new.self) (world_in c.self.inside.verified.value c.happen.new.self) (event_of c.args.event.now)
    (answer_of (leaves_at (system_in c.self.inside.verified.value) (device_of c.args.event.now)) c.happen.result) k.checked k.reached (c.happen.ensures.goes c.self.inside.verified.value k).happens))

pub returns-clause-point : goal.returns-clause-point
returns-clause-point c = rw (← c.self.view_is) (c.happen.ensures.point c.self.inside.verified.value (kept_same c.self.inside.verified.value c.self.inside.course c.reserve.new.self c.reserve.ensures.same c.self.invariant))
