use Rattle.fb_find_ranges.proofs.Distinct.{resources_are_apart}
use Rattle.fb_find_ranges.proofs.found_law.resources_are_apart.Goals as goal

pub returns : goal.returns
returns c = resources_are_apart
