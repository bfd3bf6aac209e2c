use Rattle.std.proofs.Common.{◌≡◌, ◌++◌, map, drop}
use Rattle.fb_model.specs.Demands.{of_state}
use Rattle.fb_types_blocks.specs.Views.{states_of}
use Rattle.fb_find_demands.specs.Crossed.{state_numbers}
use Rattle.fb_find_demands.specs.Grounds.{ground_in}
use Rattle.fb_find_demands.specs.Rights.{numbered, numbers_of, rights_of}
use Rattle.fb_find_demands.proofs.Entries.{state_of}
use Rattle.fb_find_demands.proofs.chart.add_states.Given as goal

abbrev pub invariant-loop-index : goal.invariant-loop-index
invariant-loop-index l =
    record {
      added :
          rights_of l.rights.items ++ numbered l.scene.numbering.now (map (of_state (ground_in l.scene)) (map state_of (drop l.index l.states.entries)))
          ≡ rights_of l.initial.rights.items ++ numbered l.scene.numbering.now (map (of_state (ground_in l.scene)) (states_of l.states));
      numbers : l.numbers.items ++ state_numbers (numbers_of l.scene.numbering.now) (ground_in l.scene) (map state_of (drop l.index l.states.entries)) ≡ state_numbers (numbers_of l.scene.numbering.now) (ground_in l.scene) (states_of l.states);
    }
