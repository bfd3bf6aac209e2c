use Rattle.fb_types_networks.proofs.Networks.{plain_true, served_true, wired_true}
use Rattle.fb_types_networks.proofs.laws.refusals_are_true.Goals as goal

pub returns-clause-plain : goal.returns-clause-plain
returns-clause-plain c = plain_true

pub returns-clause-served : goal.returns-clause-served
returns-clause-served c = served_true

pub returns-clause-network : goal.returns-clause-network
returns-clause-network c = wired_true
