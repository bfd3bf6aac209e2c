use Rattle.fb_types_networks.proofs.Networks.{one_plain, one_served, service_name, one_wired}
use Rattle.fb_types_networks.proofs.laws.one_network.Goals as goal

pub returns-clause-plain : goal.returns-clause-plain
returns-clause-plain c = one_plain

pub returns-clause-served : goal.returns-clause-served
returns-clause-served c = one_served

pub returns-clause-service : goal.returns-clause-service
returns-clause-service c = service_name

pub returns-clause-network : goal.returns-clause-network
returns-clause-network c = one_wired
