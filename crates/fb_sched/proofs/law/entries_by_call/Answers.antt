use Rattle.fb_sched.proofs.Entries.{opens_entries, takes_entries, puts_entries, puts_all_entries, settles_entries}
use Rattle.fb_sched.proofs.law.entries_by_call.Goals as goal

pub returns-clause-opens : goal.returns-clause-opens
returns-clause-opens c = opens_entries

pub returns-clause-takes : goal.returns-clause-takes
returns-clause-takes c = takes_entries

pub returns-clause-puts : goal.returns-clause-puts
returns-clause-puts c = puts_entries

pub returns-clause-all : goal.returns-clause-all
returns-clause-all c = puts_all_entries

pub returns-clause-settles : goal.returns-clause-settles
returns-clause-settles c = settles_entries
