use Rattle.std.proofs.Common.{◌≡◌, ℕ, ◌<◌, ◌≤◌, map, Some, slice_get}
use Rattle.std.specs.List.{sum_by}
use Rattle.indexmap.specs.IndexMap.{spare}
use Rattle.fb_world_course.specs.declared.station.Station.{Station}
use Rattle.fb_world_course.specs.Room.{face_of, opens_there}
use Rattle.fb_world_course.proofs.room.reserve_tables.Given as goal

-- the tables so far have room
abbrev pub invariant-loop-at : goal.invariant-loop-at
invariant-loop-at l = record {
  same : map face_of l.stations ≡ map face_of l.fn.stations;
  room : (k : ℕ) (s : Station) → k < l.at → slice_get l.stations k ≡ Some s → sum_by (opens_there l.fn.stations k) l.events ≤ spare s.roots;
}
