use Rattle.fb_model_worlds.proofs.First.{first_is_there}
use Rattle.fb_model_worlds.proofs.Going.{goes_on}
use Rattle.fb_model_worlds.proofs.worlds_are_there.Goals as goal

pub returns-clause-first : goal.returns-clause-first
returns-clause-first c = first_is_there

pub returns-clause-next : goal.returns-clause-next
returns-clause-next c = λ system cert hold old s. goes_on system cert hold old s
