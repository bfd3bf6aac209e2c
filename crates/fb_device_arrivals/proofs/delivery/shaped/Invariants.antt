use Rattle.std.proofs.Common.{◌≡◌, take}
use Rattle.fb_device_arrivals.specs.Delivering.{types_taken, numbers_taken}
use Rattle.fb_device_arrivals.proofs.delivery.shaped.Given as goal

-- so many values have their types
abbrev pub invariant-loop-at : goal.invariant-loop-at
invariant-loop-at l = (types_taken (take l.at l.values) ≡ take l.at l.types) × (l.taken.items ≡ numbers_taken (take l.at l.values))
