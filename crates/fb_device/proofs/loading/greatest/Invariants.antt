use Rattle.std.proofs.Common.{◌≤◌, take}
use Rattle.std.specs.List.{AllByRecursion}
use Rattle.fb_device_tables.specs.declared.table.Resource.{Resource}
use Rattle.fb_device.proofs.loading.greatest.Given as goal

abbrev pub invariant-loop-resource : goal.invariant-loop-resource
invariant-loop-resource l = AllByRecursion (λ (x : Resource). x.depth ≤ l.greatest) (take l.resource-index l.resources)
