use Rattle.std.proofs.Common.{◌≡◌, false, drop}
use Rattle.std.specs.List.{AllByRecursion}
use Rattle.fb_verified.specs.Lookups.{is_same_path}
use Rattle.fb_device_state.specs.Machines.{device_in}
use Rattle.fb_world_course.specs.declared.station.Station.{Station}
use Rattle.fb_world_course.proofs.station.numbered.Given as goal

-- no device so far has the name
abbrev pub invariant-loop-at : goal.invariant-loop-at
invariant-loop-at l = AllByRecursion (λ (s : Station). is_same_path (device_in s.device).name l.name ≡ false) (drop l.at l.stations) → AllByRecursion (λ (s : Station). is_same_path (device_in s.device).name l.name ≡ false) l.stations
