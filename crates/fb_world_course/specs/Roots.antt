-- Roots that open at a device, with its causes.
use Rattle.std.specs.Prelude.{ℕ, ◌≡◌, ◌+◌, Bool, true, if◌then◌else◌, List, ◌++◌, length, Some, slice_get}
use Rattle.fb_model.specs.Wires.{leaves}
use Rattle.fb_model.specs.Devices.{is_pending, put}
use Rattle.fb_model.specs.World.{roots_from}
use Rattle.fb_device.specs.Answers.{IsOpening}
use Rattle.fb_device_state.specs.Sessions.{Session}
use Rattle.fb_device_state.specs.Machines.{device_in, cert_in, machine_of}
use Rattle.fb_device.specs.declared.answer.Opening.{Opening}
use Rattle.fb_world_course.specs.declared.station.Root.{Root}
use Rattle.fb_world_course.specs.declared.station.Station.{Station}
use Rattle.fb_world_course.specs.Scenes.{root_for}

-- the arrival that opened a cause of a device
abbrev pub Opens : Session → ℕ → Opening → Type 0
Opens s c o = IsOpening (cert_in s) (leaves (device_in s)) (machine_of s) c (Some o)

-- a cause has a pending entry
abbrev pub IsPending : Session → ℕ → Type 0
IsPending s c = (q : ℕ) × (is_pending c ((machine_of s).queues q) ≡ true)

-- as many causes are counted as the device has opened
abbrev pub IsCounted : Station → Type 0
IsCounted s = s.causes + 1 ≡ (machine_of s.device).next

-- the same with its device in another state
abbrev pub with_device : Station → Session → Station
with_device s device = record s { device = device }

-- these roots were opened by the causes of a device from one on, and have no steps
abbrev pub AreOpened : Session → ℕ → ℕ → List Root → Type 0
AreOpened s number c rs = (k : ℕ) (r : Root) → slice_get rs k ≡ Some r → (r.device ≡ number) × (r.steps ≡ 0) × Opens s (c + k) r.opening

-- so many causes of a device have opened a root each, in order
pub record OpensRoots (old : Station) (number count : ℕ) (roots : List Root) (new : Station) (roots' : List Root) : Type 0 where
  pub more : List Root
  pub roots_are : roots' ≡ roots ++ more
  pub counted : length more ≡ count
  pub opened : AreOpened old.device number (old.causes + 1) more
  pub device : new.device ≡ old.device
  pub causes : new.causes ≡ old.causes + count
  pub rooted : (c : ℕ) → root_for new.roots.entries c ≡ roots_from (root_for old.roots.entries) (old.causes + 1) (old.causes + 1 + count) (length roots + 1) c

-- where an arrival was admitted, the next cause of a device is of this root
pub record EntersRoot (old : Station) (admitted : Bool) (root : ℕ) (new : Station) : Type 0 where
  pub causes : new.causes ≡ (if admitted then old.causes + 1 else old.causes)
  pub rooted : (c : ℕ) → root_for new.roots.entries c ≡ (if admitted then put (root_for old.roots.entries) (old.causes + 1) root else root_for old.roots.entries) c
