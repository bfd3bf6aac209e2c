use Rattle.fb_find_laws.proofs.Same.{says_same}
use Rattle.fb_find_laws.proofs.found.groups_say_same.Goals as goal

pub returns : goal.returns
returns c = says_same
