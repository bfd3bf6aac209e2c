use Rattle.std.proofs.Common.{◌≡◌, take}
use Rattle.fb_find_graph.specs.Searches.{rows_of}
use Rattle.fb_find_graph.specs.Systems.{needs}
use Rattle.fb_find_graph.specs.Views.{system_of}
use Rattle.fb_find_graph.proofs.system.rows_needed.Given as goal

abbrev pub invariant-loop-alternatives : goal.invariant-loop-alternatives
invariant-loop-alternatives l = rows_of l.graph.items ≡ needs (system_of (take l.alternatives-index l.system))
