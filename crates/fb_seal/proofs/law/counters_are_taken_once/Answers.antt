use Rattle.fb_seal.proofs.Counters.{once, never_again, above_all}
use Rattle.fb_seal.proofs.law.counters_are_taken_once.Goals as goal

pub returns-clause-once : goal.returns-clause-once
returns-clause-once c = once

pub returns-clause-never_again : goal.returns-clause-never_again
returns-clause-never_again c = never_again

pub returns-clause-above : goal.returns-clause-above
returns-clause-above c = above_all
