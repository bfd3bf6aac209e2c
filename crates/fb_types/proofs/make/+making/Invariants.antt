use Rattle.std.proofs.Common.{◌≤◌, ◌+◌, ◌*◌, List, map, take}
use Rattle.fb_model.specs.Declarations as decl
use Rattle.fb_tree.specs.Files as trees_of
use Rattle.fb_types.specs.Made.{IsTable, IsMemo, AreParts}
use Rattle.fb_types.proofs.make.+making.Given as goal

-- how deep composites may nest still, with a rank of the functions
abbrev pub decreases-make : goal.decreases-make
decreases-make l = 6 * l.room + 1

abbrev pub decreases-make_composite : goal.decreases-make_composite
decreases-make_composite l = 6 * l.room

abbrev pub decreases-body_of_type : goal.decreases-body_of_type
decreases-body_of_type l = 6 * l.room + 2

abbrev pub decreases-part : goal.decreases-part
decreases-part l = 6 * l.room + 3

abbrev pub decreases-parts : goal.decreases-parts
decreases-parts l = 6 * l.room + 4

abbrev pub decreases-inside : goal.decreases-inside
decreases-inside l = 6 * l.room + 5

-- those so far are made, and what is remembered is
abbrev pub invariant-parts-loop-source : goal.invariant-parts-loop-source
invariant-parts-loop-source l =
    record {
      bounded : l.deepest ≤ l.initial.room;
      kept : (bs : List decl.BlockTree) → IsTable bs l.initial.types → IsMemo bs l.initial.memo → IsMemo bs l.memo;
      made : (bs : List decl.BlockTree) → IsTable bs l.initial.types → IsMemo bs l.initial.memo → AreParts bs l.initial.room (map trees_of.instance_of (take l.source-index l.initial.sources)) l.instances.items l.deepest;
    }
