use Rattle.fb_model.specs.BlockTyping.{no_guard, a_guard}
use Rattle.fb_types_blocks.proofs.chart.guard.Goals as goal

pub returns-in_ok-guard-in-Some-clause-found : goal.returns-in_ok-guard-in-Some-clause-found
returns-in_ok-guard-in-Some-clause-found c = rw c.in-Some.is (a_guard c.in_ok-guard-in-Some.ensures.found)

pub returns-in-None-clause-found : goal.returns-in-None-clause-found
returns-in-None-clause-found c = rw c.in-None.is no_guard
