use Rattle.std.proofs.Common.{◌≡◌, ◌++◌, [], map, drop}
use Rattle.std.specs.List.{flat_map}
use Rattle.fb_find_demands.specs.Rights.{rights_of}
use Rattle.fb_find_demands.specs.Leaves.{leaf_rights}
use Rattle.fb_find_demands.proofs.plain.plain_leaves.Given as goal

abbrev pub invariant-loop-leaf : goal.invariant-loop-leaf
invariant-loop-leaf l =
    rights_of l.rights.items ++ flat_map (leaf_rights l.numbering l.unit l.follows []) (map (λ x. x.now) (drop l.leaf-index l.leaves))
    ≡ flat_map (leaf_rights l.numbering l.unit l.follows []) (map (λ x. x.now) l.leaves)
