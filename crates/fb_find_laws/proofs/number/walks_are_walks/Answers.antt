use Rattle.fb_find_laws.proofs.Numbering.{walk_nodes}
use Rattle.fb_find_laws.proofs.number.walks_are_walks.Goals as goal

pub returns : goal.returns
returns c = walk_nodes
