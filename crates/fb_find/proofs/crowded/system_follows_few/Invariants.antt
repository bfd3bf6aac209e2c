use Rattle.std.proofs.Common.{◌≤◌, drop}
use Rattle.std.specs.List.{AllByRecursion}
use Rattle.fb_model.specs.Wires.{most_followed, resource_count}
use Rattle.fb_types.specs.Views.{resource_of}
use Rattle.fb_types.specs.declared.typed.Device.{Device}
use Rattle.fb_find.proofs.crowded.system_follows_few.Given as goal

abbrev pub invariant-loop-device : goal.invariant-loop-device
invariant-loop-device l =
    AllByRecursion (λ (d : Device). AllByRecursion (λ r. resource_count (resource_of r) ≤ most_followed) d.resources.items) (drop l.device-index l.typed.devices.items)
    → AllByRecursion (λ (d : Device). AllByRecursion (λ r. resource_count (resource_of r) ≤ most_followed) d.resources.items) l.typed.devices.items
