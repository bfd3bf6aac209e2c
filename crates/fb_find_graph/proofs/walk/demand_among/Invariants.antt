use Rattle.std.proofs.Common.{take, map}
use Rattle.fb_find_graph.specs.Walks.{IsGreatestDemand}
use Rattle.fb_find_graph.specs.Views.{inequality_of}
use Rattle.fb_find_graph.proofs.walk.demand_among.Given as goal

abbrev pub invariant-loop-alternative : goal.invariant-loop-alternative
invariant-loop-alternative l = IsGreatestDemand (map inequality_of (take l.alternative-index l.alternatives)) l.q l.most
