use Rattle.std.proofs.Common.{◌≤◌, take, map, slice_index}
use Rattle.fb_find_graph.specs.Systems.{IsGreatest}
use Rattle.fb_find_graph.specs.Views.{inequality_of}
use Rattle.fb_find_graph.proofs.system.greatest.Given as goal

abbrev pub invariant-loop-alternative : goal.invariant-loop-alternative
invariant-loop-alternative l = record {
  greatest : IsGreatest (slice_index l.numbers) (map inequality_of (take l.alternative-index l.alternatives)) l.most;
  within : l.most ≤ l.limit;
}
