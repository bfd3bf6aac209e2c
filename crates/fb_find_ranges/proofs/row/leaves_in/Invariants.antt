use Rattle.std.proofs.Common.{◌≡◌, map, take}
use Rattle.fb_find_ranges.specs.AddedRows.{flat_leaves}
use Rattle.fb_find_ranges.proofs.row.leaves_in.Given as goal

-- the leaves of the devices so far
abbrev pub invariant-loop-device : goal.invariant-loop-device
invariant-loop-device l = map (λ x. x.now) l.all.items ≡ flat_leaves (take l.device-index l.devices)
