use Rattle.std.proofs.Common.{◌≡◌, ◌+◌, ◌*◌, ◌++◌, [], None, drop, map}
use Rattle.fb_model.specs.Wires.{entered_in, followed, enter_count_in, follow_count}
use Rattle.fb_flat.specs.Sites.{path_of, inner_of, events_in}
use Rattle.fb_flat.specs.Walks.{reached, spots_of}
use Rattle.fb_flat.specs.Bundled.{seen}
use Rattle.fb_flat.specs.Indexes.{sized, size_of}
use Rattle.fb_flat.proofs.enter.+entering.Given as goal

-- what is reached, with what the connections left lead to, is what all lead to; and the budget pays for those so far
abbrev pub invariant-pass-loop-connection : goal.invariant-pass-loop-connection
invariant-pass-loop-connection l =
    record {
      reached :
          reached l.walk ++ spots_of (followed (map seen (drop l.connection-index l.connection-items)) None l.port (entered_in (inner_of l.indexed) (path_of l.trail)) (λ o. []))
          ≡ reached l.initial.walk ++ spots_of (followed (events_in l.indexed) None l.port (entered_in (inner_of l.indexed) (path_of l.trail)) (λ o. []));
      left :
          l.walk.left + follow_count (events_in l.indexed) None l.port (enter_count_in (inner_of l.indexed)) (λ o. 0)
          ≡ l.initial.walk.left + follow_count (map seen (drop l.connection-index l.connection-items)) None l.port (enter_count_in (inner_of l.indexed)) (λ o. 0);
    }

-- larger composites are entered before smaller ones
abbrev pub decreases-enter : goal.decreases-enter
decreases-enter l = 3 * sized l.instance.now

abbrev pub decreases-pass : goal.decreases-pass
decreases-pass l = 3 * size_of l.indexed.now + 2

abbrev pub decreases-enter_named : goal.decreases-enter_named
decreases-enter_named l = 3 * size_of l.indexed.now + 1
