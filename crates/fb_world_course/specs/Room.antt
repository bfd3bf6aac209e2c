-- The room that events may take.
use Rattle.std.specs.Prelude.{ℕ, ◌≡◌, ◌+◌, ◌<◌, ◌≤◌, ◌==◌, ◌^◌, List, map, length, Option, None, Some, if◌then◌else◌, slice_get}
use Rattle.std.specs.List.{sum_by}
use Rattle.std.specs.Vec.{vec_capacity}
use Rattle.indexmap.specs.IndexMap.{spare}
use Rattle.fb_model.specs.Wires.{leaves}
use Rattle.fb_device_state.specs.Sessions.{Session}
use Rattle.fb_device_state.specs.Machines.{device_in}
use Rattle.fb_world_course.specs.declared.answer.WorldEvent.{WorldEvent}
use Rattle.fb_world_course.specs.declared.answer.WorldEvent.TheVariants.{Offer, Tick, Dispatch, Deliver}
use Rattle.fb_world_course.specs.declared.station.Station.{Station}
use Rattle.fb_world_course.specs.declared.course.Course.{Course}
use Rattle.fb_world_course.specs.Answers.{device_of}

-- what stays of a device where room is made
pub record Face : Type 0 where
  pub session : Session
  pub causes : ℕ
  pub rooted : List (ℕ × ℕ)

abbrev pub face_of : Station → Face
face_of s = record { session = s.device; causes = s.causes; rooted = s.roots.entries }

-- room was made, and nothing else
pub record IsSame (old new : Course) : Type 0 where
  pub stations : map face_of new.stations.items ≡ map face_of old.stations.items
  pub datagrams : new.datagrams.items ≡ old.datagrams.items
  pub roots : new.roots.items ≡ old.roots.items
  pub dispatches : new.dispatches ≡ old.dispatches

-- the blocks of the device of a number
abbrev pub blocks_of : Option Station → ℕ
blocks_of None = 0
blocks_of (Some s) = length (leaves (device_in s.device))

-- how many causes an event opens at most
abbrev pub opens_at_most : List Station → WorldEvent → ℕ
opens_at_most stations (Offer device input values) = 1
opens_at_most stations (Tick device now) = blocks_of (slice_get stations device)
opens_at_most stations (Dispatch device resource) = 0
opens_at_most stations (Deliver number device) = 1

-- and at the device of a number
abbrev pub opens_there : List Station → ℕ → WorldEvent → ℕ
opens_there stations d event = if device_of event == d then opens_at_most stations event else 0

-- how many datagrams an event sends at most, and how many dispatches it is
abbrev pub dispatches_in : WorldEvent → ℕ
dispatches_in (Offer device input values) = 0
dispatches_in (Tick device now) = 0
dispatches_in (Dispatch device resource) = 1
dispatches_in (Deliver number device) = 0

-- there is room for all that events may open and send
pub record HasRoom (c : Course) (events : List WorldEvent) : Type 0 where
  pub roots : length c.roots.items + sum_by (opens_at_most c.stations.items) events ≤ vec_capacity c.roots
  pub datagrams : length c.datagrams.items + sum_by dispatches_in events ≤ vec_capacity c.datagrams
  pub causes : (k : ℕ) (s : Station) → slice_get c.stations.items k ≡ Some s → sum_by (opens_there c.stations.items k) events ≤ spare s.roots
  pub numbers : c.dispatches + sum_by dispatches_in events < 2 ^ 64

-- there is room for so many causes of a device, and for so many datagrams
pub record HasPlaces (c : Course) (device opened sent : ℕ) : Type 0 where
  pub roots : length c.roots.items + opened ≤ vec_capacity c.roots
  pub datagrams : length c.datagrams.items + sent ≤ vec_capacity c.datagrams
  pub causes : (s : Station) → slice_get c.stations.items device ≡ Some s → opened ≤ spare s.roots
  pub numbers : c.dispatches + sent < 2 ^ 64

-- a device is as before, but for so many roots of its causes
pub record UsesTable (old new : Station) (opened : ℕ) : Type 0 where
  pub same : device_in new.device ≡ device_in old.device
  pub spare_is : spare old.roots ≤ spare new.roots + opened

-- not more room is used than for so many causes of a device, and for so many datagrams
pub record Uses (old new : Course) (device opened sent : ℕ) : Type 0 where
  pub roots : length new.roots.items ≤ length old.roots.items + opened
  pub roots_room : vec_capacity new.roots ≡ vec_capacity old.roots
  pub datagrams : length new.datagrams.items ≤ length old.datagrams.items + sent
  pub datagrams_room : vec_capacity new.datagrams ≡ vec_capacity old.datagrams
  pub count : length new.stations.items ≡ length old.stations.items
  pub stations : (k : ℕ) (t : Station) → slice_get new.stations.items k ≡ Some t → (s : Station) × (slice_get old.stations.items k ≡ Some s) × UsesTable s t (if device == k then opened else 0)
  pub dispatches : new.dispatches ≤ old.dispatches + sent
