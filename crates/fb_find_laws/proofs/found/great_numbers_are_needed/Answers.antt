use Rattle.fb_find_laws.proofs.Laws.{great_needed}
use Rattle.fb_find_laws.proofs.found.great_numbers_are_needed.Goals as goal

pub returns : goal.returns
returns c = great_needed
