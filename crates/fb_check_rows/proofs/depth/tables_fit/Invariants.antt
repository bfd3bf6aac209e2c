use Rattle.std.proofs.Common.{drop}
use Rattle.std.specs.List.{AllByRecursion}
use Rattle.fb_check_rows.specs.Depths.{DeviceFits}
use Rattle.fb_check_rows.proofs.depth.tables_fit.Given as goal

abbrev pub invariant-loop-device : goal.invariant-loop-device
invariant-loop-device l = AllByRecursion (DeviceFits l.certificate) (drop l.device-index l.flat.devices.items) → AllByRecursion (DeviceFits l.certificate) l.flat.devices.items
