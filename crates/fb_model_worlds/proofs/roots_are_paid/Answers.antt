use Rattle.fb_model_worlds.proofs.Running.{first_is_paid, paid_event, paid_run}
use Rattle.fb_model_worlds.proofs.roots_are_paid.Goals as goal

pub returns-clause-first : goal.returns-clause-first
returns-clause-first c = first_is_paid

pub returns-clause-next : goal.returns-clause-next
returns-clause-next c = λ system cert repeats hold far few old new event answer s h p. paid_event system cert hold repeats far few old event answer new s h p

pub returns-clause-then : goal.returns-clause-then
returns-clause-then c = λ system cert repeats hold far few old new events answers s r p. paid_run system cert hold repeats far few events answers old new s r p
