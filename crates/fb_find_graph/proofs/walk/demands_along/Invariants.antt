use Rattle.fb_find_graph.specs.Walks.{IsPaidSoFar}
use Rattle.fb_find_graph.specs.Views.{system_of}
use Rattle.fb_find_graph.proofs.walk.demands_along.Given as goal

abbrev pub invariant-loop-k : goal.invariant-loop-k
invariant-loop-k l = IsPaidSoFar (system_of l.system) l.walk l.k l.paid
