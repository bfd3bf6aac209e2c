-- What the calls of a device are.
use Rattle.std.specs.Prelude.{◌<◌}
use Rattle.std.specs.List.{AllByRecursion}
use Rattle.fb_model.specs.Devices.{Event, Offer, Deliver, Tick, Dispatch}

-- a datagram has bytes, each below 256
abbrev pub IsCall : Event → Type 0
IsCall (Deliver bytes) = AllByRecursion (λ b. b < 256) bytes
IsCall (Offer input values) = Unit {0}
IsCall (Tick now) = Unit {0}
IsCall (Dispatch resource) = Unit {0}
