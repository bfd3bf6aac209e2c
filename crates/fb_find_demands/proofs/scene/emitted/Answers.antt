use Rattle.std.proofs.Common.{◌+◌, List, [], ◌∷◌, map, drop}
use Rattle.fb_model.specs.Demands.{emitted}
use Rattle.fb_types_blocks.specs.declared.typed.Action.{Action}
use Rattle.fb_types_blocks.specs.Views.{action_of}
use Rattle.fb_find_demands.specs.Grounds.{ground_in}
use Rattle.fb_find_demands.specs.Rights.{numbers_of}
use Rattle.fb_find_demands.proofs.Loops.{rest_of, turn}
use Rattle.fb_find_demands.proofs.Charts.{emitted_more}
use Rattle.fb_find_demands.proofs.scene.emitted.Goals as goal

pub loop-action-preserved : goal.loop-action-preserved
loop-action-preserved c =
    let g = ground_in c.args.scene.now in
    let f = numbers_of c.args.scene.now.numbering.now in
    let xs = c.args.actions.now in
    let i = c.loop-action.action-index in
    let x = c.action-item.result in
    turn (λ (ys : List Action). map f (emitted g (map action_of ys))) xs i x (map f (emitted g (action_of x ∷ []))) c.loop-action.terms.items c.add_emission.new.terms.items _ (rest_of xs i x c.loop-action-test.true c.action-item.is)
    (emitted_more f g (action_of x) (map action_of (drop (i + 1) xs))) c.in_ok-add_emission.ensures c.loop-action.invariant
