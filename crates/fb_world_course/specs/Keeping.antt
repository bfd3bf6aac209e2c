-- What holds of every world.
use Rattle.std.specs.Prelude.{ℕ, ◌≡◌, ◌*◌, ◌≤◌, List, length, Some, slice_get}
use Rattle.std.specs.List.{AllByRecursion}
use Rattle.fb_model.specs.System.{System}
use Rattle.fb_model.specs.Certificates.{Certificate}
use Rattle.fb_model.specs.World.{World, WorldEvent, WorldAnswer, WorldHappens, WorldRun, IsFirst}
use Rattle.fb_verified.specs.declared.verified.Verified.{Verified}
use Rattle.fb_verified.specs.Checked.{system_in, certificate_in, IsChecked}
use Rattle.fb_device_tables.specs.Tables.{far_at}
use Rattle.fb_world_course.specs.declared.station.Root.{Root}
use Rattle.fb_world_course.specs.declared.station.Station.{Station}
use Rattle.fb_world_course.specs.declared.course.Course.{Course}
use Rattle.fb_world_course.specs.Scenes.{opening_place, world_in}
use Rattle.fb_world_course.specs.Roots.{IsCounted}

-- some run from the first world of a system leads to it
pub record IsReached (system : System) (cert : Certificate) (w : World) : Type 0 where
  pub first : World
  pub events : List WorldEvent
  pub answers : List WorldAnswer
  pub is_first : IsFirst system first
  pub run : WorldRun system cert first events answers w

-- the device of a number in what was checked, with the number of its causes
pub record IsStation (v : Verified) (k : ℕ) (s : Station) : Type 0 where
  pub verified : s.device.verified ≡ v
  pub number : s.device.number ≡ k
  pub counted : IsCounted s

-- a root tells the FAR of its opening, and has not more steps than so many dispatches can take
pub record IsRoot (v : Verified) (dispatches : ℕ) (r : Root) : Type 0 where
  pub far : r.opening.far ≡ far_at (certificate_in v) (opening_place (system_in v) r.device r.opening)
  pub few : r.steps ≤ dispatches * 18446744073709551615

-- the fields agree with one another
pub record IsSteady (v : Verified) (c : Course) : Type 0 where
  pub count : length c.stations.items ≡ length (system_in v).devices
  pub few : length c.stations.items ≤ 16
  pub stations : (k : ℕ) (s : Station) → slice_get c.stations.items k ≡ Some s → IsStation v k s
  pub roots : AllByRecursion (IsRoot v c.dispatches) c.roots.items

pub record IsKept (v : Verified) (c : Course) : Type 0 where
  pub checked : IsChecked v
  pub steady : IsSteady v c
  pub reached : IsReached (system_in v) (certificate_in v) (world_in v c)

-- an event of the book takes one course to another, with this answer
pub record Goes (v : Verified) (old : Course) (event : WorldEvent) (answer : WorldAnswer) (new : Course) : Type 0 where
  pub happens : WorldHappens (system_in v) (certificate_in v) (world_in v old) event answer (world_in v new)
  pub steady : IsSteady v new
