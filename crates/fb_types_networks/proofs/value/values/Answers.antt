use Rattle.std.proofs.Common.{map}
use Rattle.fb_types_blocks.specs.Views.{face_of}
use Rattle.fb_tree.specs.Files as trees_of
use Rattle.fb_types_networks.specs.Views.{connection_of}
use Rattle.fb_types_networks.specs.Ends.{inner_of, ends_of}
use Rattle.fb_types_networks.proofs.Faultless.{values_found}
use Rattle.fb_types_networks.proofs.value.values.Goals as goal

pub returns-clause-only : goal.returns-clause-only
returns-clause-only c =
    λ t.
    values_found (face_of c.args.site.now.face.now) (inner_of c.args.site.now.instances.now) (λ v. map connection_of v.items) (ends_of c.args.taken.now) (map trees_of.connection_of c.args.trees.now) c.each_value.result (c.each_value.ensures.typed t)
    (c.each_value.ensures.refused t)
