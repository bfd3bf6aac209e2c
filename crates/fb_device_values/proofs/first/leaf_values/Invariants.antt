use Rattle.std.proofs.Common.{take}
use Rattle.fb_device_values.specs.Filling.{AreFilled, leaves_in}
use Rattle.fb_device_values.proofs.first.leaf_values.Given as goal

abbrev pub invariant-loop-resource : goal.invariant-loop-resource
invariant-loop-resource l = AreFilled (leaves_in (take l.resource-index l.resources)) l.values.own.items l.values.issued.items
