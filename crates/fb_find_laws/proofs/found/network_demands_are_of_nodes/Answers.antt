use Rattle.fb_find_laws.proofs.Laws.{network_nodes}
use Rattle.fb_find_laws.proofs.found.network_demands_are_of_nodes.Goals as goal

pub returns : goal.returns
returns c = network_nodes
