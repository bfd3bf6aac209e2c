use Rattle.fb_find_laws.proofs.Laws.{of_nodes}
use Rattle.fb_find_laws.proofs.found.demands_are_of_nodes.Goals as goal

pub returns : goal.returns
returns c = of_nodes
