use Rattle.std.proofs.Common.{◌≡◌, ◌++◌, drop}
use Rattle.std.specs.List.{flat_map}
use Rattle.fb_check_rows.specs.Channels.{resource_channels}
use Rattle.fb_check_rows.proofs.channel.add_device.Given as goal

-- with the channels of those that are left, all are there
abbrev pub invariant-loop-resource : goal.invariant-loop-resource
invariant-loop-resource l = l.numbers.items ++ flat_map resource_channels (drop l.resource-index l.device.resources.items) ≡ l.initial.numbers.items ++ flat_map resource_channels l.device.resources.items
