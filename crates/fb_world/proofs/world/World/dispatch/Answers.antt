use Rattle.std.proofs.Common.{◌≡◌, ◌<◌, length, refl, ◌∙◌, subst, arith}
use Rattle.fb_model.specs.System.{System}
use Rattle.fb_model.specs.World.{WorldEvent, WorldAnswer, WorldHappens, At_device, A_dispatch, Answered}
use Rattle.fb_verified.specs.declared.verified.Verified.{Verified}
use Rattle.fb_verified.specs.Checked.{system_in, certificate_in}
use Rattle.fb_device_dispatch.specs.Answers.{dispatched_of}
use Rattle.fb_world_course.specs.declared.course.Course.{Course}
use Rattle.fb_world_course.specs.Scenes.{Scene, scene_of, system_of, cert_of, world_of, world_in}
use Rattle.fb_world_course.specs.Answers.{leaves_at}
use Rattle.fb_model.specs.Causes.{Falls}
use Rattle.fb_world.proofs.Bounds.{falls}
use Rattle.fb_world_course.proofs.Kept.{count_same, scene_same, kept_same, kept_more}
use Rattle.fb_world.proofs.world.World.dispatch.Goals as goal

-- what happens from a course is what happens in its scene
in_scene : (v : Verified) (s : Scene) (old new : Course) (e : WorldEvent) (a : System → WorldAnswer) → scene_of v old ≡ s → WorldHappens (system_in v) (certificate_in v) (world_in v old) e (a (system_in v)) (world_in v new) → WorldHappens (system_of s) (cert_of s) (world_of s) e (a (system_of s)) (world_in v new)
in_scene v s old new e a is h = subst (λ (t : Scene). WorldHappens (system_of t) (cert_of t) (world_of t) e (a (system_of t)) (world_in v new)) is h

-- and what the laws say of it
falls_scene : (v : Verified) (s : Scene) (old new : Course) (e : WorldEvent) (a : System → WorldAnswer) → scene_of v old ≡ s → Falls (system_in v) (certificate_in v) (world_in v old) e (a (system_in v)) (world_in v new) → Falls (system_of s) (cert_of s) (world_of s) e (a (system_of s)) (world_in v new)
falls_scene v s old new e a is h = subst (λ (t : Scene). Falls (system_of t) (cert_of t) (world_of t) e (a (system_of t)) (world_in v new)) is h

pub invariant_of-self-in-Err : goal.invariant_of-self-in-Err
invariant_of-self-in-Err c = kept_same c.self.inside.verified.value c.self.inside.course c.reserve_dispatch.new.self c.reserve_dispatch.ensures.same c.self.invariant

pub dispatch-requires-clause-kept : goal.dispatch-requires-clause-kept
dispatch-requires-clause-kept c = (c.self.inside.verified.value, kept_same c.self.inside.verified.value c.self.inside.course c.reserve_dispatch.new.self c.reserve_dispatch.ensures.same c.self.invariant)

pub dispatch-requires-clause-there : goal.dispatch-requires-clause-there
dispatch-requires-clause-there c = omega (arith, c.if-device-len.false, c.len.ensures, count_same c.self.inside.course c.reserve_dispatch.new.self c.reserve_dispatch.ensures.same)

pub dispatch-requires-clause-room : goal.dispatch-requires-clause-room
dispatch-requires-clause-room c = c.in-Ok.ensures.room c.args.device

pub invariant_of-self : goal.invariant_of-self
invariant_of-self c =
    let k = kept_same c.self.inside.verified.value c.self.inside.course c.reserve_dispatch.new.self c.reserve_dispatch.ensures.same c.self.invariant in
    kept_more c.self.inside.verified.value c.reserve_dispatch.new.self c.dispatch.new.self (At_device c.args.device (A_dispatch c.args.resource)) (Answered (dispatched_of (leaves_at (system_in c.self.inside.verified.value) c.args.device) c.dispatch.new.answer) c.dispatch.result) k (c.dispatch.ensures.goes c.self.inside.verified.value k)

pub returns-in-Err-clause-missed : goal.returns-in-Err-clause-missed
returns-in-Err-clause-missed c = (
  subst (λ (t : Scene). c.args.device < length (system_of t).devices) c.self.view_is (omega (arith, c.if-device-len.false, c.len.ensures, c.self.invariant.steady.count)),
  scene_same c.self.inside.verified.value c.self.inside.course c.reserve_dispatch.new.self c.reserve_dispatch.ensures.same ∙ c.self.view_is,
  refl,
)

pub returns-in-Ok-clause-happens : goal.returns-in-Ok-clause-happens
returns-in-Ok-clause-happens c =
    let k = kept_same c.self.inside.verified.value c.self.inside.course c.reserve_dispatch.new.self c.reserve_dispatch.ensures.same c.self.invariant in
    in_scene c.self.inside.verified.value c.args.self.now c.reserve_dispatch.new.self c.dispatch.new.self (At_device c.args.device (A_dispatch c.args.resource)) (λ system. Answered (dispatched_of (leaves_at system c.args.device) c.dispatch.new.answer) c.dispatch.result)
    (scene_same c.self.inside.verified.value c.self.inside.course c.reserve_dispatch.new.self c.reserve_dispatch.ensures.same ∙ c.self.view_is) (c.dispatch.ensures.goes c.self.inside.verified.value k).happens

pub returns-in-Ok-clause-falls : goal.returns-in-Ok-clause-falls
returns-in-Ok-clause-falls c =
    let k = kept_same c.self.inside.verified.value c.self.inside.course c.reserve_dispatch.new.self c.reserve_dispatch.ensures.same c.self.invariant in
    falls_scene c.self.inside.verified.value c.args.self.now c.reserve_dispatch.new.self c.dispatch.new.self (At_device c.args.device (A_dispatch c.args.resource)) (λ system. Answered (dispatched_of (leaves_at system c.args.device) c.dispatch.new.answer) c.dispatch.result)
    (scene_same c.self.inside.verified.value c.self.inside.course c.reserve_dispatch.new.self c.reserve_dispatch.ensures.same ∙ c.self.view_is)
    (falls c.self.inside.verified.value (world_in c.self.inside.verified.value c.reserve_dispatch.new.self) (world_in c.self.inside.verified.value c.dispatch.new.self) (At_device c.args.device (A_dispatch c.args.resource))
    (Answered (dispatched_of (leaves_at (system_in c.self.inside.verified.value) c.args.device) c.dispatch.new.answer) c.dispatch.result) k.checked k.reached (c.dispatch.ensures.goes c.self.inside.verified.value k).happens)

pub returns-in-Ok-clause-point : goal.returns-in-Ok-clause-point
returns-in-Ok-clause-point c = rw (← c.self.view_is) (c.dispatch.ensures.point c.self.inside.verified.value (kept_same c.self.inside.verified.value c.self.inside.course c.reserve_dispatch.new.self c.reserve_dispatch.ensures.same c.self.invariant))
