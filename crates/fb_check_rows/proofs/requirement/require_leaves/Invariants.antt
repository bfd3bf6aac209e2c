use Rattle.std.proofs.Common.{◌≡◌, drop}
use Rattle.std.specs.List.{flat_map}
use Rattle.fb_types_blocks.specs.Views.{names_of}
use Rattle.fb_check_rows.specs.Members.{gathered}
use Rattle.fb_check_rows.specs.Texts.{leaf_texts}
use Rattle.fb_check_rows.proofs.requirement.require_leaves.Given as goal

-- with the rows of the leaves that are left, all are there
abbrev pub invariant-loop-leaf : goal.invariant-loop-leaf
invariant-loop-leaf l = gathered (names_of l.rows) (flat_map (leaf_texts l.kind) (drop l.leaf-index l.leaves)) ≡ gathered (names_of l.initial.rows) (flat_map (leaf_texts l.kind) l.leaves)
