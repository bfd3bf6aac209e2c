use Rattle.std.proofs.Common.{◌≡◌, ◌++◌, List, map, subst, sym, ◌∙◌, ap}
use Rattle.fb_model.specs.World.{WorldRun}
use Rattle.fb_verified.specs.Checked.{system_in, certificate_in}
use Rattle.fb_world_course.specs.declared.answer.WorldAnswer.{WorldAnswer}
use Rattle.fb_world_course.specs.Scenes.{Scene, world_of, world_in}
use Rattle.fb_world_course.specs.Answers.{event_of, answers_of, HaveWorldPlaces}
use Rattle.fb_world.proofs.Bounds.{falls_over}
use Rattle.fb_world_course.proofs.Kept.{scene_same, kept_same, on_err}
use Rattle.fb_world.proofs.world.World.run.Goals as goal

pub invariant_of-self : goal.invariant_of-self
invariant_of-self c = kept_same c.self.inside.verified.value c.self.inside.course c.reserve.new.self c.reserve.ensures.same c.self.invariant

pub returns-in_err-reserve-clause-unchanged : goal.returns-in_err-reserve-clause-unchanged
returns-in_err-reserve-clause-unchanged c = on_err c.from_residual-in_err-reserve.result (rw (← c.self.view_is) (scene_same c.self.inside.verified.value c.self.inside.course c.reserve.new.self c.reserve.ensures.same))

pub happen_all-requires-clause-kept : goal.happen_all-requires-clause-kept
happen_all-requires-clause-kept c = (c.self.inside.verified.value, kept_same c.self.inside.verified.value c.self.inside.course c.reserve.new.self c.reserve.ensures.same c.self.invariant)

pub invariant_of-self-2 : goal.invariant_of-self-2
invariant_of-self-2 c = c.happen_all.ensures.kept c.self.inside.verified.value (kept_same c.self.inside.verified.value c.self.inside.course c.reserve.new.self c.reserve.ensures.same c.self.invariant)

pub returns-clause-run : goal.returns-clause-run
returns-clause-run c =
    let r = c.happen_all.ensures.run c.self.inside.verified.value (kept_same c.self.inside.verified.value c.self.inside.course c.reserve.new.self c.reserve.ensures.same c.self.invariant) in
    let is : c.happen_all.new.answers.items ≡ r.0 = r.1 ∙ ap (λ xs. xs ++ r.0) c.in_ok-answers.ensures.items in
    rw (← c.self.view_is) (subst (λ (xs : List WorldAnswer). WorldRun (system_in c.self.inside.verified.value) (certificate_in c.self.inside.verified.value) (world_in c.self.inside.verified.value c.self.inside.course) (map event_of c.args.events.now) (answers_of (system_in c.self.inside.verified.value) c.args.events.now xs) (world_in c.self.inside.verified.value c.happen_all.new.self)) (sym is)
    (subst (λ (s : Scene). WorldRun (system_in c.self.inside.verified.value) (certificate_in c.self.inside.verified.value) (world_of s) (map event_of c.args.events.now) (answers_of (system_in c.self.inside.verified.value) c.args.events.now r.0) (world_in c.self.inside.verified.value c.happen_all.new.self))
    (scene_same c.self.inside.verified.value c.self.inside.course c.reserve.new.self c.reserve.ensures.same) r.3))

pub returns-clause-falls : goal.returns-clause-falls
returns-clause-falls c =
    rw (← c.self.view_is) (falls_over c.self.inside.verified.value (world_in c.self.inside.verified.value c.self.inside.course) (world_in c.self.inside.verified.value c.happen_all.new.self) (map event_of c.args.events.now)
    (answers_of (system_in c.self.inside.verified.value) c.args.events.now c.happen_all.new.answers.items) c.self.invariant.checked c.self.invariant.reached)

pub returns-clause-points : goal.returns-clause-points
returns-clause-points c =
    let r = c.happen_all.ensures.run c.self.inside.verified.value (kept_same c.self.inside.verified.value c.self.inside.course c.reserve.new.self c.reserve.ensures.same c.self.invariant) in
    let is : c.happen_all.new.answers.items ≡ r.0 = r.1 ∙ ap (λ xs. xs ++ r.0) c.in_ok-answers.ensures.items in
    rw (← c.self.view_is) (subst (λ (xs : List WorldAnswer). HaveWorldPlaces (system_in c.self.inside.verified.value) c.args.events.now xs) (sym is) r.2)
