-- What a dispatch does to the root of its cause.
use Rattle.std.specs.Prelude.{ℕ, ◌≡◌, ◌+◌, ◌-◌, ◌<◌, ◌≤◌, ◌^◌, List, [], ◌∷◌, ◌++◌, length, set, replicate, is_some, if◌then◌else◌, Option, Some, None, slice_get}
use Rattle.indexmap.specs.IndexMap.{spare}
use Rattle.fb_model.specs.Devices.{put}
use Rattle.fb_model.specs.Messages.{Message}
use Rattle.fb_chart.specs.declared.standing.Effect.{Effect}
use Rattle.fb_chart.specs.declared.standing.Effect.TheVariants.{Send, Write}
use Rattle.fb_device_dispatch.specs.declared.answer.Ran.{Ran}
use Rattle.fb_world_course.specs.declared.sent.Sent.{Sent}
use Rattle.fb_world_course.specs.declared.station.Root.{Root}
use Rattle.fb_world_course.specs.declared.station.Station.{Station}
use Rattle.fb_world_course.specs.declared.course.Course.{Course}
use Rattle.fb_world_course.specs.Scenes.{root_for}

-- a message of a root that no device has admitted
abbrev pub fresh : Message → ℕ → Sent
fresh message root = record { message = message; root = root; admissions = replicate 16 0 }

-- the datagrams with what a block sends, and its number
abbrev pub posted_in : List Sent → ℕ → Option Effect → List Sent
posted_in sent root None = sent
posted_in sent root (Some (Write number values)) = sent
posted_in sent root (Some (Send message)) = sent ++ fresh message root ∷ []

abbrev pub number_in : List Sent → Option Effect → Option ℕ
number_in sent None = None
number_in sent (Some (Write number values)) = None
number_in sent (Some (Send message)) = Some (length sent + 1)

-- the cause of a dispatch has a root, and there is a number for its steps
pub record IsBookable (c : Course) (d : ℕ) (ran : Ran) : Type 0 where
  pub station : Station
  pub root : Root
  pub stands : slice_get c.stations.items d ≡ Some station
  pub above : 0 < root_for station.roots.entries ran.cause
  pub root_is : slice_get c.roots.items (root_for station.roots.entries ran.cause - 1) ≡ Some root
  pub fits : root.steps + 2 ^ 64 ≤ 2 ^ 128

-- so many more steps of a root
abbrev pub with_steps : Root → ℕ → Root
with_steps r steps = record r { steps = r.steps + steps }

-- its root has the steps and the datagram of the dispatch, and is forgotten where the cause has ended
pub record IsBooked (old : Course) (d : ℕ) (ran : Ran) (sent : Option ℕ) (new : Course) : Type 0 where
  pub station : Station
  pub left : Station
  pub root : Root
  pub stands : slice_get old.stations.items d ≡ Some station
  pub stations : new.stations.items ≡ set old.stations.items d left
  pub device : left.device ≡ station.device
  pub causes : left.causes ≡ station.causes
  pub rooted : (c : ℕ) → root_for left.roots.entries c ≡ (if is_some ran.ended then put (root_for station.roots.entries) ran.cause 0 else root_for station.roots.entries) c
  pub spare_is : spare station.roots ≤ spare left.roots
  pub root_is : slice_get old.roots.items (root_for station.roots.entries ran.cause - 1) ≡ Some root
  pub roots : new.roots.items ≡ set old.roots.items (root_for station.roots.entries ran.cause - 1) (with_steps root ran.steps)
  pub datagrams : new.datagrams.items ≡ posted_in old.datagrams.items (root_for station.roots.entries ran.cause) ran.effect
  pub sent_is : sent ≡ number_in old.datagrams.items ran.effect
  pub dispatches : new.dispatches ≡ old.dispatches + 1
  pub few : ran.steps < 2 ^ 64
