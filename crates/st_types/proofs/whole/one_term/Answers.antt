use Rattle.st_types.proofs.Commands.{one_asked, one_condition}
use Rattle.st_types.proofs.whole.one_term.Goals as goal

pub returns-clause-asked : goal.returns-clause-asked
returns-clause-asked c = one_asked

pub returns-clause-conditions : goal.returns-clause-conditions
returns-clause-conditions c = one_condition
