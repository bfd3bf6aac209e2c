use Rattle.std.proofs.Common.{◌+◌, ◌*◌, ◌∷◌, [], List, map, vec_len}
use Rattle.indexmap.specs.IndexMap.{index_map_len}
use Rattle.fb_model.specs.Declarations as decl
use Rattle.fb_tree.specs.Files as trees_of
use Rattle.fb_types.specs.Made.{tree_of}
use Rattle.fb_types.specs.Rings.{found_in, IsSearching}
use Rattle.fb_types.proofs.rings.searched.Given as goal

-- each type is met once, and put on the path with the one above it, which was taken from there
abbrev pub decreases-loop-top : goal.decreases-loop-top
decreases-loop-top l = 3 * index_map_len l.left + vec_len l.path

abbrev pub invariant-loop-top : goal.invariant-loop-top
invariant-loop-top l = (bs : List decl.BlockTree) → IsSearching bs (trees_of.block_of l.initial.block) (found_in l.initial.left) (trees_of.block_of l.initial.block ∷ []) → IsSearching bs (trees_of.block_of l.initial.block) (found_in l.left) (map tree_of l.path.items)
