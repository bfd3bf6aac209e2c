use Rattle.std.proofs.Common.{◌≡◌, ◌≤◌, map, take, string_bytes}
use Rattle.std.specs.List.{AllByRecursion}
use Rattle.fb_model.specs.System.{Resource}
use Rattle.fb_types.specs.Views.{resource_of}
use Rattle.fb_model.specs.Wires.{resource_count, most_followed}
use Rattle.fb_flat.specs.Leaves.{flat_resource, written_resource}
use Rattle.fb_flat.proofs.leaves.add_resources.Given as goal

-- the tables so far are the resources so far
abbrev pub invariant-loop-resource_source : goal.invariant-loop-resource_source
invariant-loop-resource_source l = record {
  leaves : map flat_resource l.resources.items ≡ map (written_resource (string_bytes l.source.name)) (map resource_of (take l.resource_source-index l.source.resources.items));
  few : AllByRecursion (λ (r : Resource). resource_count r ≤ most_followed) (map resource_of (take l.resource_source-index l.source.resources.items));
}
