use Rattle.std.proofs.Common.{map, drop}
use Rattle.fb_types_blocks.specs.Views.{face_of}
use Rattle.fb_tree.specs.Files as trees_of
use Rattle.fb_types_networks.specs.Views.{names_of, connection_of}
use Rattle.fb_types_networks.specs.Ends.{inner_of, IsTabled}
use Rattle.fb_types_networks.proofs.Loops.{EventsSo}
use Rattle.fb_types_networks.proofs.event.each_event.Given as goal

-- what holds of the connections that are left holds of all
abbrev pub invariant-loop-tree : goal.invariant-loop-tree
invariant-loop-tree l =
    IsTabled (names_of l.initial.site.names.now) l.initial.site.instances.now
    → EventsSo (face_of l.initial.site.face.now) (inner_of l.initial.site.instances.now) (map trees_of.connection_of l.initial.trees) (map connection_of l.connections.items) (map trees_of.connection_of (drop l.tree-index l.initial.trees))
