use Rattle.std.proofs.Common.{◌≡◌, ◌+◌, ◌≤◌}
use Rattle.std.specs.Vec.{vec_capacity}
use Rattle.indexmap.specs.IndexMap.{spare}
use Rattle.fb_world_course.specs.Roots.{OpensRoots}
use Rattle.fb_world_course.proofs.station.Station.open_all.Given as goal

-- so many causes have opened a root
abbrev pub invariant-loop : goal.invariant-loop
invariant-loop l = record {
  opens : OpensRoots l.fn.self l.number l.counter l.fn.roots.items l.self l.roots.items;
  spare : spare l.fn.self.roots ≤ spare l.self.roots + l.counter;
  room : vec_capacity l.roots ≡ vec_capacity l.fn.roots;
}
