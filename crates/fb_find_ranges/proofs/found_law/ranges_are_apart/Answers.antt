use Rattle.fb_find_ranges.proofs.Distinct.{ranges_are_apart}
use Rattle.fb_find_ranges.proofs.found_law.ranges_are_apart.Goals as goal

pub returns : goal.returns
returns c = ranges_are_apart
