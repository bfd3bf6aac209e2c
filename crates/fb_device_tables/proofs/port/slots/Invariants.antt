use Rattle.std.proofs.Common.{◌≡◌, ◌++◌, map, drop, string_bytes}
use Rattle.fb_chart.specs.Ports.{slots_of}
use Rattle.fb_device_tables.proofs.port.slots.Given as goal

-- the slots so far, with those of the names that are left, are all
abbrev pub invariant-loop-name : goal.invariant-loop-name
invariant-loop-name l = l.slots.items ++ slots_of l.own (map string_bytes (drop l.name-index l.names)) ≡ slots_of l.own (map string_bytes l.names)
