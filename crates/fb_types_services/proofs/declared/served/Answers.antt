use Rattle.fb_tree.specs.Files.{instance_of}
use Rattle.fb_types_services.proofs.Services.{finds}
use Rattle.fb_types_services.proofs.declared.served.Goals as goal

pub returns-clause-only : goal.returns-clause-only
returns-clause-only c = finds (instance_of c.args.source.now) c.declared.result c.declared.ensures.is c.declared.ensures.none c.declared.ensures.refused
