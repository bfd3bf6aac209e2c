use Rattle.st_types.proofs.Commands.{one_command_list}
use Rattle.st_types.proofs.whole.one_algorithm.Goals as goal

pub returns : goal.returns
returns c = one_command_list
