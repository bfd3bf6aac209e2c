use Rattle.fb_sched.proofs.Steps.{opens_steps, takes_steps, puts_steps, puts_all_steps, settles_steps}
use Rattle.fb_sched.proofs.law.steps_by_call.Goals as goal

pub returns-clause-opens : goal.returns-clause-opens
returns-clause-opens c = opens_steps

pub returns-clause-takes : goal.returns-clause-takes
returns-clause-takes c = takes_steps

pub returns-clause-puts : goal.returns-clause-puts
returns-clause-puts c = puts_steps

pub returns-clause-all : goal.returns-clause-all
returns-clause-all c = puts_all_steps

pub returns-clause-settles : goal.returns-clause-settles
returns-clause-settles c = settles_steps
