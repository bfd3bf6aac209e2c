use Rattle.std.proofs.Common.{◌≡◌, ◌++◌, map, drop}
use Rattle.std.specs.List.{flat_map}
use Rattle.fb_model.specs.Certificates.{event_names}
use Rattle.fb_model.specs.Demands.{of_input}
use Rattle.fb_types_blocks.specs.Views.{block_of, events_of}
use Rattle.fb_find_demands.specs.Grounds.{ground_in}
use Rattle.fb_find_demands.specs.Rights.{numbered, rights_of}
use Rattle.fb_find_demands.proofs.Entries.{event_in}
use Rattle.fb_find_demands.proofs.crossings.add_inputs.Given as goal

abbrev pub invariant-loop-index : goal.invariant-loop-index
invariant-loop-index l =
    rights_of l.rights.items ++ numbered l.scene.numbering.now (flat_map (of_input (ground_in l.scene) (block_of l.block)) (event_names (map event_in (drop l.index l.inputs.entries))))
    ≡ rights_of l.initial.rights.items ++ numbered l.scene.numbering.now (flat_map (of_input (ground_in l.scene) (block_of l.block)) (event_names (events_of l.inputs)))
