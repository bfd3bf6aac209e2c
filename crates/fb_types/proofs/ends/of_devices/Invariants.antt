use Rattle.std.proofs.Common.{◌≡◌, ◌++◌, map, drop}
use Rattle.fb_model.specs.NetworkTyping.{all_services}
use Rattle.fb_types.specs.Uses.{use_of, service_in}
use Rattle.fb_types.specs.Views.{device_of, system_uses}
use Rattle.fb_types.proofs.ends.of_devices.Given as goal

-- what is gathered, with what the devices left have, is what all have
abbrev pub invariant-loop-device : goal.invariant-loop-device
invariant-loop-device l =
    record {
      added : map use_of l.uses.items ++ system_uses (drop l.device-index l.initial.devices) ≡ map use_of l.initial.uses.items ++ system_uses l.initial.devices;
      services : map service_in l.uses.items ++ all_services (map device_of (drop l.device-index l.initial.devices)) ≡ map service_in l.initial.uses.items ++ all_services (map device_of l.initial.devices);
    }
