use Rattle.std.proofs.Common.{◌≡◌, ◌++◌, ◌∷◌, [], map, take}
use Rattle.std.specs.List.{AllByRecursion}
use Rattle.indexmap.specs.IndexMap.{index_map_len}
use Rattle.fb_model.specs.Names.{Name}
use Rattle.fb_tree.specs.Files as trees_of
use Rattle.fb_types.specs.Made.{tree_of}
use Rattle.fb_types.specs.Rings.{found_in, IsPassed}
use Rattle.fb_types.proofs.rings.look_among.Given as goal

-- there was nothing to search in those so far
abbrev pub invariant-loop-instance : goal.invariant-loop-instance
invariant-loop-instance l =
    record {
      len : index_map_len l.left ≡ index_map_len l.initial.left;
      same : (x : Name) → found_in l.left x ≡ found_in l.initial.left x;
      passed : AllByRecursion (IsPassed (found_in l.initial.left) (map tree_of l.initial.path ++ trees_of.block_of l.initial.top ∷ [])) (map trees_of.instance_of (take l.instance-index l.initial.instances));
    }
