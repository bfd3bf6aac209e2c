use Rattle.std.proofs.Common.{map}
use Rattle.fb_tree.specs.Files as trees_of
use Rattle.fb_types_blocks.specs.Views.{face_of}
use Rattle.fb_types_networks.specs.Views.{placed_of}
use Rattle.fb_types_networks.proofs.Networks.{wired_found}
use Rattle.fb_types_networks.proofs.wiring.wire.Goals as goal

pub returns-clause-only : goal.returns-clause-only
returns-clause-only c =
    let ps = map placed_of c.args.instances.items in
    λ named es vs. wired_found (face_of c.args.face.now) (trees_of.network_of c.args.source.now) ps c.joined.result (c.joined.ensures.typed named) (c.joined.ensures.refused named) (ps, es, vs)
