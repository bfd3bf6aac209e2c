use Rattle.std.proofs.Common.{◌≡◌, ◌++◌, drop}
use Rattle.std.specs.List.{flat_map}
use Rattle.fb_check_rows.specs.Channels.{device_channels}
use Rattle.fb_check_rows.proofs.channel.channels.Given as goal

-- with the channels of those that are left, all are there
abbrev pub invariant-loop-device : goal.invariant-loop-device
invariant-loop-device l = l.numbers.items ++ flat_map device_channels (drop l.device-index l.flat.devices.items) ≡ flat_map device_channels l.flat.devices.items
