-- What contracts see of a world, in lists, and the book's world that it is.
use Rattle.std.specs.Prelude.{ℕ, zero, suc, ◌+◌, List, [], map, length, Option, None, Some, nat_eq, slice_get, slice_index_or}
use Rattle.std.specs.Map.{lookup}
use Rattle.fb_model.specs.Names.{Place, at_place}
use Rattle.fb_model.specs.System.{System}
use Rattle.fb_model.specs.Wires.{leaves}
use Rattle.fb_model.specs.Certificates.{Certificate}
use Rattle.fb_model.specs.Devices.{Machine}
use Rattle.fb_model.specs.World as book
use Rattle.fb_model.specs.World.{World, Datagram, machine_at}
use Rattle.fb_verified.specs.declared.verified.Verified.{Verified}
use Rattle.fb_verified.specs.Checked.{system_in, certificate_in}
use Rattle.fb_device_state.specs.Sessions.{Session}
use Rattle.fb_device_state.specs.Machines.{device_at, machine_of}
use Rattle.fb_device_tables.specs.Views.{place_at}
use Rattle.fb_device.specs.declared.answer.Opening.{Opening}
use Rattle.fb_world_course.specs.declared.sent.Sent.{Sent}
use Rattle.fb_world_course.specs.declared.station.Root.{Root}
use Rattle.fb_world_course.specs.declared.station.Station.{Station}
use Rattle.fb_world_course.specs.declared.course.Course.{Course}

-- a device, and the root of each of its causes that has a pending entry
pub record Site : Type 0 where
  pub session : Session
  pub rooted : List (ℕ × ℕ)

pub record Scene : Type 0 where
  pub verified : Verified
  -- the devices, in text order
  pub sites : List Site
  -- those sent so far, the first of them has the number 1
  pub datagrams : List Sent
  -- those opened so far, the first of them is 1
  pub roots : List Root

abbrev pub site_of : Station → Site
site_of s = record { session = s.device; rooted = s.roots.entries }

abbrev pub scene_of : Verified → Course → Scene
scene_of v c = record { verified = v; sites = map site_of c.stations.items; datagrams = c.datagrams.items; roots = c.roots.items }

-- ---- the parts

abbrev pub site_machine : Option Site → Machine
site_machine None = machine_at [] 0
site_machine (Some s) = machine_of s.session

-- the root of a cause, and 0 where it has none
abbrev pub told_root : Option ℕ → ℕ
told_root None = 0
told_root (Some root) = root

abbrev pub root_for : List (ℕ × ℕ) → ℕ → ℕ
root_for entries c = told_root (lookup (nat_eq c) entries)

abbrev pub site_roots : Option Site → ℕ → ℕ
site_roots None c = 0
site_roots (Some s) c = root_for s.rooted c

abbrev pub datagram_of : Sent → Datagram
datagram_of g = record { message = g.message; root = g.root; admissions = λ d. slice_index_or g.admissions d 0 }

-- the place of an arrival that is told by numbers, at the device of a number
abbrev pub opening_place : System → ℕ → Opening → Place
opening_place system d o = place_at (leaves (device_at system.devices d)) (record { block = o.block; event = o.event })

abbrev pub root_in : System → Option Root → book.Root
root_in system None = record { opening = at_place [] []; steps = 0 }
root_in system (Some r) = record { opening = opening_place system r.device r.opening; steps = r.steps }

-- roots are numbered from 1
abbrev pub numbered : {A : Type 0} → List A → ℕ → Option A
numbered xs zero = None
numbered xs (suc n) = slice_get xs n

-- ---- the whole

abbrev pub world_of : Scene → World
world_of s =
    record {
      machines = λ d. site_machine (slice_get s.sites d);
      datagrams = map datagram_of s.datagrams;
      root_of = λ d. site_roots (slice_get s.sites d);
      roots = λ n. root_in (system_in s.verified) (numbered s.roots n);
      next = length s.roots + 1;
    }

abbrev pub system_of : Scene → System
system_of s = system_in s.verified

abbrev pub cert_of : Scene → Certificate
cert_of s = certificate_in s.verified

-- the world of what was checked, in its course
abbrev pub world_in : Verified → Course → World
world_in v c = world_of (scene_of v c)
