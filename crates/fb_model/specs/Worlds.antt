-- What is so of every world that devices come to, and how the measure of a root falls.
-- This project's profile.
use Rattle.std.specs.Prelude.{ℕ, suc, Option, None, ◌≡◌, ◌+◌, ◌<◌, ◌≤◌, ◌==◌, false, List, [], ◌∷◌, Some, if◌then◌else◌, length, slice_get}
use Rattle.std.specs.List.{AllByRecursion}
use Rattle.fb_model.specs.System.{Device, System}
use Rattle.fb_model.specs.Wires.{Leaf}
use Rattle.fb_model.specs.Messages.{Stamp}
use Rattle.fb_model.specs.Store.{Stamps, Unstamped, Upcoming, Exhausted, Latest}
use Rattle.fb_model.specs.Serving.{stamps_of}
use Rattle.fb_model.specs.Certificates.{Certificate, far_of, DeviceHolds}
use Rattle.fb_model.specs.Devices.{Machine, Answer, Happens, Admitted, Denied, Expired, Idle, Ran, is_later, subscriber_of}
use Rattle.fb_model.specs.Headline.{IsSound, IsSendable}
use Rattle.fb_model.specs.World.{Local, local_event, IsDelivered, WorldHappens, Datagram, World, WorldEvent, At_device, Deliver_datagram, WorldAnswer, Answered, Unknown, WorldRun, far_left, AreWithin}

-- a system whose devices all hold under a certificate
abbrev pub AllHold : System → Certificate → Type 0
AllHold system cert = AllByRecursion (DeviceHolds cert) system.devices

-- ---- what is so of every world

abbrev pub IsOpened : World → ℕ → Type 0
IsOpened w root = (0 < root) × (root < w.next)

-- a SUBSCRIBE keeps this stamp or a later one
abbrev pub IsKept : Stamp → Stamps → Type 0
IsKept stamp (Latest last) = is_later stamp last ≡ false
IsKept stamp Unstamped = ⊥
IsKept stamp (Upcoming next) = ⊥
IsKept stamp Exhausted = ⊥

-- the SUBSCRIBE of a channel at a device does
abbrev pub KeepsStamp : Device → Machine → ℕ → Stamp → Type 0
KeepsStamp device m channel stamp = (leaf : Leaf) → subscriber_of device channel ≡ Some leaf → IsKept stamp (stamps_of (m.store leaf.path).condition)

-- a datagram with a stamp was admitted at most once at each device
abbrev pub IsOnce : Datagram → Type 0
IsOnce g = (stamp : Stamp) → g.message.stamp ≡ Some stamp → (d : ℕ) → g.admissions d ≤ 1

-- and where it was, its stamp or a later one is kept
abbrev pub IsKeptWhereAdmitted : System → World → Datagram → Type 0
IsKeptWhereAdmitted system w g =
    (stamp : Stamp) (d : ℕ) (device : Device) → g.message.stamp ≡ Some stamp → slice_get system.devices d ≡ Some device → 0 < g.admissions d → KeepsStamp device (w.machines d) g.message.number stamp

-- what is so of each datagram that was sent
pub record IsSent (system : System) (w : World) (g : Datagram) : Type 0 where
  pub opened : IsOpened w g.root
  pub message : IsSendable g.message
  pub few : (d : ℕ) → g.admissions d ≤ 256
  pub once : IsOnce g
  pub kept : IsKeptWhereAdmitted system w g

-- what is so of each world that devices come to
pub record IsWorldSound (system : System) (cert : Certificate) (w : World) : Type 0 where
  -- 0 is no root
  pub above : 0 < w.next
  pub machines : (d : ℕ) (device : Device) → slice_get system.devices d ≡ Some device → IsSound cert device (w.machines d)
  -- nothing is pending at resources that a device does not have
  pub within : (d : ℕ) (device : Device) → slice_get system.devices d ≡ Some device → (q : ℕ) → length device.resources ≤ q → (w.machines d).queues q ≡ []
  -- the root of each pending entry was opened
  pub rooted : (d q : ℕ) → AllByRecursion (λ e. IsOpened w (w.root_of d e.cause)) ((w.machines d).queues q)
  pub datagrams : AllByRecursion (IsSent system w) w.datagrams

-- ---- the measure of a root

-- the steps so far of a root, and what it may still cost, are together at most the FAR of its opening
abbrev pub IsPaid : System → Certificate → ℕ → World → ℕ → Type 0
IsPaid system cert repeats w root = (w.roots root).steps + far_left system cert repeats w root ≤ (far_of cert).weight (w.roots root).opening

-- it is so of each root whose datagrams without a stamp were admitted at most so often at each device
abbrev pub ArePaid : System → Certificate → ℕ → World → Type 0
ArePaid system cert repeats w = (root : ℕ) → IsOpened w root → AreWithin repeats root w.datagrams → IsPaid system cert repeats w root

-- the dispatches of a root at an event
abbrev pub dispatches_of : World → ℕ → WorldEvent → WorldAnswer → ℕ
dispatches_of old root (At_device d event) (Answered (Ran cause place steps effect ended) sent) = if old.root_of d cause == root then 1 else 0
dispatches_of old root (At_device d event) (Answered (Admitted cause) sent) = 0
dispatches_of old root (At_device d event) (Answered (Denied why) sent) = 0
dispatches_of old root (At_device d event) (Answered (Expired count) sent) = 0
dispatches_of old root (At_device d event) (Answered Idle sent) = 0
dispatches_of old root (At_device d event) Unknown = 0
dispatches_of old root (Deliver_datagram number d) answer = 0

-- what an event does to the measures of roots
pub record MeasureFalls (system : System) (cert : Certificate) (repeats : ℕ) (old : World) (event : WorldEvent) (answer : WorldAnswer) (new : World) : Type 0 where
  -- a root that opens has no steps, and may cost what its opening costs
  pub opens : (root : ℕ) → old.next ≤ root → root < new.next → ((new.roots root).steps ≡ 0) × (far_left system cert repeats new root ≤ (far_of cert).weight (new.roots root).opening)
  -- a root has one opening
  pub openings : (root : ℕ) → root < old.next → (new.roots root).opening ≡ (old.roots root).opening
  -- each dispatch takes at least one step
  pub steps : (root : ℕ) → root < old.next → (old.roots root).steps + dispatches_of old root event answer ≤ (new.roots root).steps
  -- the measure falls by the steps that are taken
  pub spends : (root : ℕ) → root < old.next → AreWithin repeats root new.datagrams → (new.roots root).steps + far_left system cert repeats new root ≤ (old.roots root).steps + far_left system cert repeats old root
  -- so it falls at each dispatch, and rises at no send and no delivery that is allowed
  pub falls : (root : ℕ) → root < old.next → AreWithin repeats root new.datagrams → far_left system cert repeats new root + dispatches_of old root event answer ≤ far_left system cert repeats old root

-- the dispatches of a root over a run
abbrev pub dispatches_over : (system : System) (cert : Certificate) (root : ℕ) (old : World) (es : List WorldEvent) (as' : List WorldAnswer) (new : World) → WorldRun system cert old es as' new → ℕ
dispatches_over system cert root old [] [] new run = 0
dispatches_over system cert root old [] (a ∷ as') new run = 0
dispatches_over system cert root old (e ∷ es) [] new run = 0
dispatches_over system cert root old (e ∷ es) (a ∷ as') new run = dispatches_of old root e a + dispatches_over system cert root run.0 es as' new run.2

-- what a run does to the measures of roots that were opened before it
pub record MeasureFallsOver (system : System) (cert : Certificate) (repeats : ℕ) (old : World) (es : List WorldEvent) (as' : List WorldAnswer) (new : World) (run : WorldRun system cert old es as' new) : Type 0 where
  pub more : old.next ≤ new.next
  pub openings : (root : ℕ) → root < old.next → (new.roots root).opening ≡ (old.roots root).opening
  pub steps : (root : ℕ) → root < old.next → (old.roots root).steps + dispatches_over system cert root old es as' new run ≤ (new.roots root).steps
  pub spends : (root : ℕ) → root < old.next → AreWithin repeats root new.datagrams → (new.roots root).steps + far_left system cert repeats new root ≤ (old.roots root).steps + far_left system cert repeats old root
  pub falls : (root : ℕ) → root < old.next → AreWithin repeats root new.datagrams → far_left system cert repeats new root + dispatches_over system cert root old es as' new run ≤ far_left system cert repeats old root

-- a root is dispatched at most as often as the FAR of its opening says, on all devices together
abbrev pub EndsRoots : System → Certificate → World → Type 0
EndsRoots system cert old =
    (es : List WorldEvent) (as' : List WorldAnswer) (new : World) (repeats root : ℕ) (run : WorldRun system cert old es as' new) → cert.repeats ≡ Some repeats → repeats ≤ 255 → 0 < root → root < new.next → AreWithin repeats root new.datagrams
    → dispatches_over system cert root old es as' new run ≤ (far_of cert).weight (new.roots root).opening

-- ---- there is always a world

-- whatever a device may do by itself, and whichever answer it may give to a datagram that comes to it, there is a world then
pub record GoesOn (system : System) (cert : Certificate) (old : World) : Type 0 where
  pub at_device : (d : ℕ) (event : Local) (device : Device) (answer : Answer) (machine : Machine) → slice_get system.devices d ≡ Some device → Happens cert device (old.machines d) (local_event event) answer machine
      → (sent : Option ℕ) × (new : World) × WorldHappens system cert old (At_device d event) (Answered answer sent) new
  pub delivers : (d n : ℕ) (device : Device) (datagram : Datagram) (answer : Answer) (machine : Machine) → slice_get system.devices d ≡ Some device → slice_get old.datagrams n ≡ Some datagram → IsDelivered cert device datagram (old.machines d) answer machine
      → (new : World) × WorldHappens system cert old (Deliver_datagram (suc n) d) (Answered answer None) new
