use Rattle.fb_find_laws.proofs.Numbering.{least_nodes}
use Rattle.fb_find_laws.proofs.number.least_numbers_are_least.Goals as goal

pub returns : goal.returns
returns c = least_nodes
