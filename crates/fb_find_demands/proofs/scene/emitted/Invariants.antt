use Rattle.std.proofs.Common.{◌≡◌, ◌++◌, map, drop}
use Rattle.fb_model.specs.Demands.{emitted}
use Rattle.fb_types_blocks.specs.Views.{action_of}
use Rattle.fb_find_demands.specs.Grounds.{ground_in}
use Rattle.fb_find_demands.specs.Rights.{numbers_of}
use Rattle.fb_find_demands.proofs.scene.emitted.Given as goal

abbrev pub invariant-loop-action : goal.invariant-loop-action
invariant-loop-action l =
    l.terms.items ++ map (numbers_of l.scene.numbering.now) (emitted (ground_in l.scene) (map action_of (drop l.action-index l.actions)))
    ≡ map (numbers_of l.scene.numbering.now) (emitted (ground_in l.scene) (map action_of l.actions))
