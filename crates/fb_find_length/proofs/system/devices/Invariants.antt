use Rattle.std.proofs.Common.{◌≡◌, ◌≤◌, ◌+◌, map, drop}
use Rattle.fb_types.specs.Views.{device_of}
use Rattle.fb_find_length.specs.Counting.{devices_length}
use Rattle.fb_find_length.proofs.system.devices.Given as goal

-- what is left, with what all have, is the budget with what those left have
abbrev pub invariant-loop-each : goal.invariant-loop-each
invariant-loop-each l =
    (l.left ≤ 16777216)
    × (l.left + devices_length l.repeats (map device_of l.devices) ≡ l.initial.left + devices_length l.repeats (map device_of (drop l.each-index l.devices)))
