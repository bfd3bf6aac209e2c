use Rattle.std.proofs.Common.{drop}
use Rattle.std.specs.List.{AllByRecursion}
use Rattle.fb_cert.specs.Views.{certificate_of}
use Rattle.fb_check_ranges.specs.Tables.{DevicePasses}
use Rattle.fb_check_ranges.proofs.clear.devices_clear.Given as goal

abbrev pub invariant-loop-device : goal.invariant-loop-device
invariant-loop-device l = AllByRecursion (DevicePasses (certificate_of l.certificate).ranges) (drop l.device-index l.devices) → AllByRecursion (DevicePasses (certificate_of l.certificate).ranges) l.devices
