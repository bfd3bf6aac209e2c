-- Arrivals by numbers, and what becomes of them.
use Rattle.std.specs.Prelude.{ℕ, ℤ, ◌≡◌, ◌≤◌, ◌<◌, ◌-◌, ◌^◌, List, Some, slice_get}
use Rattle.fb_model.specs.System.{Device}
use Rattle.fb_model.specs.Wires.{Leaf}
use Rattle.fb_model.specs.Ranges.{IsMessage}
use Rattle.fb_model.specs.Certificates.{Certificate, events_of, depth_of}
use Rattle.fb_model.specs.Devices.{Arrival, Machine, HasRoom, admitted, held, place_of, places_row}
use Rattle.fb_chart.specs.declared.table.Point.{Point}
use Rattle.fb_device_state.specs.declared.admission.Shortage.{Shortage}
use Rattle.fb_device_state.specs.declared.admission.Shortage.TheVariants.{Places, Numbers}

-- the arrival at the event of a leaf, by their numbers
pub record IsArrival (all : List Leaf) (point : Point) (values : List ℤ) (a : Arrival) : Type 0 where
  pub leaf : slice_get all point.block ≡ Some a.leaf
  pub event : slice_get (events_of a.leaf.kind) point.event ≡ Some a.event
  pub same : a.values ≡ values
  pub message : IsMessage a.leaf.kind values

-- it is admitted, as the next cause
pub record Admits (cert : Certificate) (device : Device) (old : Machine) (a : Arrival) (cause : ℕ) (new : Machine) : Type 0 where
  pub room : HasRoom cert device old a
  pub cause_is : cause ≡ old.next
  pub new_is : new ≡ admitted old a

-- it is not: its places are not there, or no number is left
abbrev pub IsShort : Certificate → Device → Machine → Arrival → Shortage → Type 0
IsShort cert device m a (Places needs free) =
    (needs ≡ places_row cert (place_of a)) × (free ≡ depth_of cert device a.leaf.home - held (places_row cert) (m.queues a.leaf.home)) × (free < needs)
IsShort cert device m a Numbers = 2 ^ 64 ≤ m.next
