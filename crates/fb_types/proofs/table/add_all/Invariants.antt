use Rattle.std.proofs.Common.{◌++◌, List, map, take}
use Rattle.fb_model.specs.Declarations as decl
use Rattle.fb_tree.specs.Files as trees_of
use Rattle.fb_types.specs.Made.{IsTable}
use Rattle.fb_types.proofs.table.add_all.Given as goal

-- the table has those so far
abbrev pub invariant-loop-block : goal.invariant-loop-block
invariant-loop-block l = (bs : List decl.BlockTree) → IsTable bs l.initial.types → IsTable (bs ++ map trees_of.block_of (take l.block-index l.initial.blocks)) l.types
