use Rattle.std.proofs.Common.{◌≡◌, ◌++◌, map, drop}
use Rattle.fb_model.specs.Demands.{event}
use Rattle.fb_flat.specs.Tables.{target_place}
use Rattle.fb_find_demands.specs.Rights.{numbers_of}
use Rattle.fb_find_demands.proofs.scene.add_targets.Given as goal

abbrev pub invariant-loop-target : goal.invariant-loop-target
invariant-loop-target l =
    l.terms.items ++ map (λ p. numbers_of l.numbering (event p)) (map target_place (drop l.target-index l.targets))
    ≡ l.initial.terms.items ++ map (λ p. numbers_of l.numbering (event p)) (map target_place l.targets)
