use Rattle.fb_find_laws.proofs.Nodes.{rows_numbered}
use Rattle.fb_find_laws.proofs.found.rows_are_numbers.Goals as goal

pub returns : goal.returns
returns c = rows_numbered
