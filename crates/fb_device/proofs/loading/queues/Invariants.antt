use Rattle.std.proofs.Common.{take}
use Rattle.fb_device.specs.Starting.{AreEmpty}
use Rattle.fb_device.proofs.loading.queues.Given as goal

abbrev pub invariant-loop-resource : goal.invariant-loop-resource
invariant-loop-resource l = AreEmpty (take l.resource-index l.resources) l.queues.items
