use Rattle.std.proofs.Common.{◌≡◌, List, map, take}
use Rattle.fb_model.specs.Declarations as decl
use Rattle.fb_model.specs.NetworkTyping.{AreDevices}
use Rattle.fb_tree.specs.Files as trees_of
use Rattle.fb_types.specs.Made.{IsTable, IsMemo}
use Rattle.fb_model.specs.Nesting.{DevicesProvide}
use Rattle.fb_types.specs.Views.{device_of, system_offsets, all_offsets, system_uses}
use Rattle.fb_types.proofs.device.devices.Given as goal

-- those so far are typed, and what is remembered is made
abbrev pub invariant-loop-source : goal.invariant-loop-source
invariant-loop-source l =
    record {
      offsets : system_offsets l.devices.items ≡ all_offsets (map trees_of.device_of (take l.source-index l.initial.sources));
      kept : (bs : List decl.BlockTree) → IsTable bs l.initial.types → IsMemo bs l.initial.memo → IsMemo bs l.memo;
      typed : (bs : List decl.BlockTree) → IsTable bs l.initial.types → IsMemo bs l.initial.memo → AreDevices bs (map trees_of.device_of (take l.source-index l.initial.sources)) (map device_of l.devices.items);
      uses : (bs : List decl.BlockTree) → IsTable bs l.initial.types → IsMemo bs l.initial.memo → DevicesProvide bs (map trees_of.device_of (take l.source-index l.initial.sources)) (system_uses l.devices.items);
    }
