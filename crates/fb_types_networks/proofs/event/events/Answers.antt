use Rattle.std.proofs.Common.{map}
use Rattle.fb_types_blocks.specs.Views.{face_of}
use Rattle.fb_tree.specs.Files as trees_of
use Rattle.fb_types_networks.specs.Views.{connection_of}
use Rattle.fb_types_networks.specs.Ends.{inner_of}
use Rattle.fb_types_networks.proofs.Faultless.{events_found}
use Rattle.fb_types_networks.proofs.event.events.Goals as goal

pub returns-clause-only : goal.returns-clause-only
returns-clause-only c =
    λ t. events_found (face_of c.args.site.now.face.now) (inner_of c.args.site.now.instances.now) (λ v. map connection_of v.items) (map trees_of.connection_of c.args.trees.now) c.each_event.result (c.each_event.ensures.typed t) (c.each_event.ensures.refused t)
