use Rattle.std.proofs.Common.{◌≤◌, drop}
use Rattle.std.specs.List.{AllByRecursion}
use Rattle.fb_model.specs.Wires.{most_followed, resource_count}
use Rattle.fb_types.specs.Views.{resource_of}
use Rattle.fb_find.proofs.crowded.device_follows_few.Given as goal

abbrev pub invariant-loop-resource : goal.invariant-loop-resource
invariant-loop-resource l =
    AllByRecursion (λ r. resource_count (resource_of r) ≤ most_followed) (drop l.resource-index l.device.resources.items) → AllByRecursion (λ r. resource_count (resource_of r) ≤ most_followed) l.device.resources.items
