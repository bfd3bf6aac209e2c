-- The first world, device by device.
use Rattle.std.specs.Prelude.{ℕ, ◌≡◌, ◌+◌, List, [], ◌++◌, length, Some, slice_get}
use Rattle.std.specs.List.{AllByRecursion}
use Rattle.fb_model.specs.Devices.{first_stamp, at_first}
use Rattle.fb_model.specs.World.{roots_before}
use Rattle.fb_verified.specs.declared.verified.Verified.{Verified}
use Rattle.fb_verified.specs.Checked.{system_in}
use Rattle.fb_device_state.specs.Machines.{device_in, machine_of}
use Rattle.fb_world_course.specs.declared.station.Root.{Root}
use Rattle.fb_world_course.specs.declared.station.Station.{Station}
use Rattle.fb_world_course.specs.Roots.{OpensRoots}
use Rattle.fb_world_course.specs.Keeping.{IsRoot}

-- a device to which nothing has happened but its start
pub record IsAtFirst (v : Verified) (k : ℕ) (s : Station) : Type 0 where
  pub verified : s.device.verified ≡ v
  pub number : s.device.number ≡ k
  pub machine : machine_of s.device ≡ at_first (device_in s.device) 1 first_stamp

-- so has the device of a number, and each of its causes has opened a root behind others
pub record Begins (v : Verified) (k : ℕ) (roots : List Root) (s : Station) (roots' : List Root) : Type 0 where
  pub first : IsAtFirst v k s
  pub none : Station
  pub empty : none.roots.entries ≡ []
  pub no_causes : none.causes ≡ 0
  pub same : none.device ≡ s.device
  pub opens : OpensRoots none k s.causes roots s roots'
  pub counted : s.causes + 1 ≡ (machine_of s.device).next

-- so it was, where these roots are some of all
pub record HasBegun (v : Verified) (k : ℕ) (s : Station) (roots : List Root) : Type 0 where
  pub before : List Root
  pub middle : List Root
  pub after : List Root
  pub counted : length before ≡ roots_before (system_in v).devices k
  pub begins : Begins v k before s middle
  pub roots_are : roots ≡ middle ++ after

-- the first devices have begun, one after another
pub record HaveBegun (v : Verified) (n : ℕ) (stations : List Station) (roots : List Root) : Type 0 where
  pub count : length stations ≡ n
  pub counted : length roots ≡ roots_before (system_in v).devices n
  pub begun : (k : ℕ) (s : Station) → slice_get stations k ≡ Some s → HasBegun v k s roots
  pub told : AllByRecursion (IsRoot v 0) roots
