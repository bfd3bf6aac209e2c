use Rattle.fb_sched.proofs.Steps.{steps_found, steps_none}
use Rattle.fb_sched.proofs.law.steps_by_slot.Goals as goal

pub returns-clause-open : goal.returns-clause-open
returns-clause-open c = λ a slot r h e. steps_found a.slots slot r h.different e

pub returns-clause-none : goal.returns-clause-none
returns-clause-none c = λ a cause h. steps_none a.slots cause h
