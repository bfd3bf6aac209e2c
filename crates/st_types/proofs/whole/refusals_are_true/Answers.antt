use Rattle.st_types.proofs.Faultless.{asked_faultless, condition_faultless, commands_faultless}
use Rattle.st_types.proofs.whole.refusals_are_true.Goals as goal

pub returns-clause-expressions : goal.returns-clause-expressions
returns-clause-expressions c = asked_faultless

pub returns-clause-conditions : goal.returns-clause-conditions
returns-clause-conditions c = condition_faultless

pub returns-clause-statements : goal.returns-clause-statements
returns-clause-statements c = commands_faultless
