use Rattle.std.proofs.Common.{◌≡◌, map, drop}
use Rattle.fb_model.specs.Names.{Name}
use Rattle.fb_check_ranges.specs.Places.{or_else, under, leaf_named}
use Rattle.fb_check_ranges.proofs.place.places.Given as goal

abbrev pub invariant-loop-leaf : goal.invariant-loop-leaf
invariant-loop-leaf l = (x : Name) → or_else (under l.places x) (leaf_named (map (λ y. y.now) (drop l.leaf-index l.leaves)) x) ≡ leaf_named (map (λ y. y.now) l.leaves) x
