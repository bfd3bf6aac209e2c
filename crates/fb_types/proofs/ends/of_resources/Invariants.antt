use Rattle.std.proofs.Common.{◌≡◌, ◌++◌, map, drop}
use Rattle.fb_model.specs.NetworkTyping.{device_services}
use Rattle.fb_types.specs.Uses.{use_of, service_in}
use Rattle.fb_types.specs.Views.{resource_of, device_uses}
use Rattle.fb_types.proofs.ends.of_resources.Given as goal

-- what is gathered, with what the resources left have, is what all have
abbrev pub invariant-loop-resource : goal.invariant-loop-resource
invariant-loop-resource l =
    record {
      added : map use_of l.uses.items ++ device_uses (drop l.resource-index l.initial.resources) ≡ map use_of l.initial.uses.items ++ device_uses l.initial.resources;
      services : map service_in l.uses.items ++ device_services (map resource_of (drop l.resource-index l.initial.resources)) ≡ map service_in l.initial.uses.items ++ device_services (map resource_of l.initial.resources);
    }
