use Rattle.std.proofs.Common.{◌≡◌, List, map, take}
use Rattle.fb_model.specs.Declarations as decl
use Rattle.fb_model.specs.NetworkTyping.{AreResources}
use Rattle.fb_tree.specs.Files as trees_of
use Rattle.fb_types.specs.Made.{IsTable, IsMemo}
use Rattle.fb_model.specs.Nesting.{ResourcesProvide}
use Rattle.fb_types.specs.Views.{resource_of, resource_offsets, offsets_in, device_uses}
use Rattle.fb_types.proofs.resource.resources.Given as goal

-- those so far are typed, and what is remembered is made
abbrev pub invariant-loop-source : goal.invariant-loop-source
invariant-loop-source l =
    record {
      offsets : resource_offsets l.resources.items ≡ offsets_in (map trees_of.resource_of (take l.source-index l.initial.sources));
      kept : (bs : List decl.BlockTree) → IsTable bs l.initial.types → IsMemo bs l.initial.memo → IsMemo bs l.memo;
      typed : (bs : List decl.BlockTree) → IsTable bs l.initial.types → IsMemo bs l.initial.memo → AreResources bs (map trees_of.resource_of (take l.source-index l.initial.sources)) (map resource_of l.resources.items);
      uses : (bs : List decl.BlockTree) → IsTable bs l.initial.types → IsMemo bs l.initial.memo → ResourcesProvide bs (map trees_of.resource_of (take l.source-index l.initial.sources)) (device_uses l.resources.items);
    }
