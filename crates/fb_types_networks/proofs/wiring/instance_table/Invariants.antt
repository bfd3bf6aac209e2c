use Rattle.std.proofs.Common.{map, drop}
use Rattle.fb_tree.specs.Files as trees_of
use Rattle.fb_types_blocks.specs.Views.{face_of}
use Rattle.fb_types_networks.specs.Views.{names_of}
use Rattle.fb_model.specs.NetworkFaults.{own_names}
use Rattle.fb_types_networks.proofs.Naming.{NamesSo}
use Rattle.fb_types_networks.proofs.wiring.instance_table.Given as goal

-- what is so of the names that are left is so of all
abbrev pub invariant-loop-source : goal.invariant-loop-source
invariant-loop-source l =
    NamesSo (own_names (face_of l.initial.face)) (map (λ i. i.name) (map trees_of.instance_of l.initial.sources)) (names_of l.names) (map (λ i. i.name) (map trees_of.instance_of (drop l.source-index l.initial.sources)))
