use Rattle.fb_find_graph.specs.Walks.{AreSeen}
use Rattle.fb_find_graph.proofs.walk.all_differ.Given as goal

abbrev pub invariant-loop-place : goal.invariant-loop-place
invariant-loop-place l = AreSeen l.count l.places l.place-index l.seen.items
