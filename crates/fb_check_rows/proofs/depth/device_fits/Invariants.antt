use Rattle.std.proofs.Common.{drop}
use Rattle.std.specs.List.{AllByRecursion}
use Rattle.fb_check_rows.specs.Depths.{ResourceFits, DeviceFits}
use Rattle.fb_check_rows.proofs.depth.device_fits.Given as goal

abbrev pub invariant-loop-resource : goal.invariant-loop-resource
invariant-loop-resource l = AllByRecursion (ResourceFits l.certificate) (drop l.resource-index l.device.resources.items) → DeviceFits l.certificate l.device
