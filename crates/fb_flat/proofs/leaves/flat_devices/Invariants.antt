use Rattle.std.proofs.Common.{◌≡◌, ◌≤◌, map, take}
use Rattle.std.specs.List.{AllByRecursion}
use Rattle.fb_model.specs.System.{Resource, Device}
use Rattle.fb_types.specs.Views.{device_of}
use Rattle.fb_model.specs.Wires.{resource_count, most_followed}
use Rattle.fb_flat.specs.Leaves.{flat_device, written_device}
use Rattle.fb_flat.proofs.leaves.flat_devices.Given as goal

-- the tables so far are the devices so far
abbrev pub invariant-loop-source : goal.invariant-loop-source
invariant-loop-source l = record {
  leaves : map flat_device l.devices.items ≡ map written_device (map device_of (take l.source-index l.typed.devices.items));
  few : AllByRecursion (λ (d : Device). AllByRecursion (λ (r : Resource). resource_count r ≤ most_followed) d.resources) (map device_of (take l.source-index l.typed.devices.items));
}
