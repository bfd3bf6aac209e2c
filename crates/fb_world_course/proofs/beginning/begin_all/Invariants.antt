use Rattle.std.proofs.Common.{◌≤◌}
use Rattle.std.specs.Vec.{vec_capacity}
use Rattle.fb_world_course.specs.Beginning.{HaveBegun}
use Rattle.fb_world_course.proofs.beginning.begin_all.Given as goal

-- so many devices have begun
abbrev pub invariant-loop-number : goal.invariant-loop-number
invariant-loop-number l = record {
  begun : HaveBegun l.verified.value l.number l.stations.items l.roots.items;
  room : l.count ≤ vec_capacity l.stations;
}
