use Rattle.std.proofs.Common.{◌≡◌, ◌+◌, ◌++◌, Some, drop, map, string_bytes}
use Rattle.fb_model.specs.Wires.{entered_in, followed, enter_count_in, follow_count}
use Rattle.fb_flat.specs.Sites.{path_of, inner_of, events_in, left_by, left_count}
use Rattle.fb_flat.specs.Walks.{reached, spots_of}
use Rattle.fb_flat.specs.Bundled.{seen}
use Rattle.fb_flat.proofs.leave.+leave.Given as goal

-- what is reached, with what the connections left lead to, is what all lead to; and the budget pays for those so far
abbrev pub invariant-loop-connection : goal.invariant-loop-connection
invariant-loop-connection l =
    let name = string_bytes l.instance.now.name in
    record {
      reached :
          reached l.walk ++ spots_of (followed (map seen (drop l.connection-index l.connection-items)) (Some name) l.port (entered_in (inner_of l.indexed.now) (path_of l.trail.now)) (left_by l.outer.now))
          ≡ reached l.initial.walk ++ spots_of (followed (events_in l.indexed.now) (Some name) l.port (entered_in (inner_of l.indexed.now) (path_of l.trail.now)) (left_by l.outer.now));
      left :
          l.walk.left + follow_count (events_in l.indexed.now) (Some name) l.port (enter_count_in (inner_of l.indexed.now)) (left_count l.outer.now)
          ≡ l.initial.walk.left + follow_count (map seen (drop l.connection-index l.connection-items)) (Some name) l.port (enter_count_in (inner_of l.indexed.now)) (left_count l.outer.now);
    }
