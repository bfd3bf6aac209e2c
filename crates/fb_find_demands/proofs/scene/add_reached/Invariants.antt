use Rattle.std.proofs.Common.{◌≡◌, ◌++◌, map, drop}
use Rattle.fb_model.specs.Certificates.{reached}
use Rattle.fb_model.specs.Demands.{event}
use Rattle.fb_flat.specs.Tables.{targets_of}
use Rattle.fb_find_demands.specs.Rights.{numbers_of}
use Rattle.fb_find_demands.proofs.scene.add_reached.Given as goal

abbrev pub invariant-loop-name : goal.invariant-loop-name
invariant-loop-name l =
    l.terms.items ++ map (λ p. numbers_of l.numbering (event p)) (reached (targets_of l.outputs) (map (λ n. n.now) (drop l.name-index l.names)))
    ≡ l.initial.terms.items ++ map (λ p. numbers_of l.numbering (event p)) (reached (targets_of l.outputs) (map (λ n. n.now) l.names))
