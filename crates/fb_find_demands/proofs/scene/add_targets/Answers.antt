use Rattle.std.proofs.Common.{◌≡◌, ℕ, List, [], ◌∷◌, ◌++◌, map, refl, ap, ◌∙◌}
use Rattle.fb_model.specs.Names.{Place}
use Rattle.fb_model.specs.Demands.{event}
use Rattle.fb_flat.specs.Tables.{target_place}
use Rattle.fb_flat.specs.declared.flat.Target.{Target}
use Rattle.fb_find_demands.specs.Rights.{numbers_of}
use Rattle.fb_find_demands.proofs.Loops.{rest_of, turn}
use Rattle.fb_find_demands.proofs.scene.add_targets.Goals as goal

pub loop-target-preserved : goal.loop-target-preserved
loop-target-preserved c =
    let f : Place → ℕ = λ p. numbers_of c.args.numbering.now (event p) in
    let xs = c.args.targets.now in
    let i = c.loop-target.target-index in
    let x = c.target-item.result in
    let number : c.in_ok-number.number ≡ f (target_place x) = rw (c.as_str.ensures.value, c.as_str-in-loop-target.ensures.value) at c.in_ok-number.ensures in
    turn (λ (ts : List Target). map f (map target_place ts)) xs i x (f (target_place x) ∷ []) c.loop-target.terms.items c.push.new.self.items _ (rest_of xs i x c.loop-target-test.true c.target-item.is) refl
    (c.in_ok-push.ensures.items ∙ ap (λ n. c.loop-target.terms.items ++ n ∷ []) number) c.loop-target.invariant
