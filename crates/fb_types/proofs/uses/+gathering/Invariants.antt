use Rattle.std.proofs.Common.{◌≡◌, ◌++◌, map, drop}
use Rattle.fb_model.specs.NetworkTyping.{services_in}
use Rattle.fb_types_networks.specs.Views.{instances_of}
use Rattle.fb_types.specs.Uses.{use_of, service_in, uses_in}
use Rattle.fb_types.proofs.uses.+gathering.Given as goal

-- what is gathered, with what the instances left have, is what all have
abbrev pub invariant-gather_all-loop-instance : goal.invariant-gather_all-loop-instance
invariant-gather_all-loop-instance l =
    record {
      added : map use_of l.uses.items ++ uses_in (drop l.instance-index l.initial.instances) ≡ map use_of l.initial.uses.items ++ uses_in l.initial.instances;
      services : map service_in l.uses.items ++ services_in (instances_of (drop l.instance-index l.initial.instances)) ≡ map service_in l.initial.uses.items ++ services_in (instances_of l.initial.instances);
    }
