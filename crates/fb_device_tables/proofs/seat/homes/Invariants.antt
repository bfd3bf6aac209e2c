use Rattle.std.proofs.Common.{◌≡◌, ◌≤◌, ◌++◌, drop, length}
use Rattle.fb_device_tables.specs.Filling.{homes_of, numbered_from, most_numbers}
use Rattle.fb_device_tables.proofs.seat.homes.Given as goal

abbrev pub invariant-loop-index : goal.invariant-loop-index
invariant-loop-index l = length l.resources ≤ most_numbers → homes_of l.homes.items ++ numbered_from l.index (drop l.index l.resources) ≡ numbered_from 0 l.resources
