use Rattle.fb_tree.specs.Files as trees_of
use Rattle.fb_types_networks.specs.Views.{body_of}
use Rattle.fb_types_networks.proofs.Networks.{plain_found}
use Rattle.fb_types_networks.proofs.instance.plain.Goals as goal

pub returns-clause-only : goal.returns-clause-only
returns-clause-only c = λ qs. plain_found (trees_of.instance_of c.args.source.now) (body_of c.args.body) c.declared.result c.declared.ensures.typed c.declared.ensures.refused ((trees_of.instance_of c.args.source.now).name.text, qs, body_of c.args.body)
