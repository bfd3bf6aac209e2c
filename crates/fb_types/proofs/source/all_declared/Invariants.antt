use Rattle.std.proofs.Common.{List, map, take}
use Rattle.std.specs.List.{AllByRecursion}
use Rattle.fb_model.specs.Declarations as decl
use Rattle.fb_model.specs.NetworkTyping.{IsProper}
use Rattle.fb_tree.specs.Files as trees_of
use Rattle.fb_types.specs.Made.{IsTable, IsMemo, IsNamed}
use Rattle.fb_types.proofs.source.all_declared.Given as goal

-- those so far are well typed, and what is remembered is made
abbrev pub invariant-loop-source : goal.invariant-loop-source
invariant-loop-source l =
    record {
      kept : (bs : List decl.BlockTree) → IsTable bs l.initial.types → IsMemo bs l.initial.memo → AllByRecursion (IsNamed bs) (map trees_of.block_of l.initial.sources) → IsMemo bs l.memo;
      proper : (bs : List decl.BlockTree) → IsTable bs l.initial.types → IsMemo bs l.initial.memo → AllByRecursion (IsNamed bs) (map trees_of.block_of l.initial.sources) → AllByRecursion (IsProper bs) (map trees_of.block_of (take l.source-index l.initial.sources));
    }
