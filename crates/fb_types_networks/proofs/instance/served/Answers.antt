use Rattle.fb_tree.specs.Files as trees_of
use Rattle.fb_types_networks.proofs.Networks.{served_found}
use Rattle.fb_types_networks.proofs.instance.served.Goals as goal

pub returns-clause-only : goal.returns-clause-only
returns-clause-only c = served_found (trees_of.instance_of c.args.source.now) c.of_service.result c.of_service.ensures.typed c.of_service.ensures.none c.of_service.ensures.refused
