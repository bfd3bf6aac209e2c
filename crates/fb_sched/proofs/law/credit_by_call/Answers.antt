use Rattle.fb_sched.proofs.Kept.{opens_places, takes_places, puts_places, puts_all_places, settles_places}
use Rattle.fb_sched.proofs.law.credit_by_call.Goals as goal

pub returns-clause-opens : goal.returns-clause-opens
returns-clause-opens c = opens_places

pub returns-clause-takes : goal.returns-clause-takes
returns-clause-takes c = takes_places

pub returns-clause-puts : goal.returns-clause-puts
returns-clause-puts c = puts_places

pub returns-clause-all : goal.returns-clause-all
returns-clause-all c = puts_all_places

pub returns-clause-settles : goal.returns-clause-settles
returns-clause-settles c = settles_places
