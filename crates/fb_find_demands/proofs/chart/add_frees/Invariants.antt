use Rattle.std.proofs.Common.{◌≡◌, ◌++◌, map, drop}
use Rattle.std.specs.List.{flat_map}
use Rattle.fb_model.specs.Demands.{of_free}
use Rattle.fb_types_blocks.specs.Views.{block_of, transition_of}
use Rattle.fb_find_demands.specs.Grounds.{ground_in}
use Rattle.fb_find_demands.specs.Rights.{numbered, rights_of}
use Rattle.fb_find_demands.specs.Spending.{IsSpent}
use Rattle.fb_find_demands.proofs.chart.add_frees.Given as goal

abbrev pub invariant-loop-transition : goal.invariant-loop-transition
invariant-loop-transition l =
    record {
      added :
          rights_of l.rights.items ++ numbered l.scene.numbering.now (flat_map (of_free (ground_in l.scene) (block_of l.block)) (map transition_of (drop l.transition-index l.transitions)))
          ≡ rights_of l.initial.rights.items ++ numbered l.scene.numbering.now (flat_map (of_free (ground_in l.scene) (block_of l.block)) (map transition_of l.transitions));
      spent : IsSpent l.scene l.block.states.entries l.last;
    }
