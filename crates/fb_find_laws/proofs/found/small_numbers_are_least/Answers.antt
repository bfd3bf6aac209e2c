use Rattle.fb_find_laws.proofs.Laws.{small_least}
use Rattle.fb_find_laws.proofs.found.small_numbers_are_least.Goals as goal

pub returns : goal.returns
returns c = small_least
