use Rattle.fb_find_ranges.proofs.Distinct.{charges_are_apart, weights_are_apart}
use Rattle.fb_find_ranges.proofs.found_law.nodes_are_apart.Goals as goal

pub returns-clause-charges : goal.returns-clause-charges
returns-clause-charges c = charges_are_apart

pub returns-clause-weights : goal.returns-clause-weights
returns-clause-weights c = weights_are_apart
