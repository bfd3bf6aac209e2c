use Rattle.std.proofs.Common.{◌≡◌, take, map}
use Rattle.fb_find_graph.specs.Systems.{needed}
use Rattle.fb_find_graph.specs.Views.{inequality_of}
use Rattle.fb_find_graph.proofs.system.needed_by.Given as goal

abbrev pub invariant-loop-alternative : goal.invariant-loop-alternative
invariant-loop-alternative l = l.row.items ≡ needed (map inequality_of (take l.alternative-index l.alternatives))
