use Rattle.std.proofs.Common.{◌≡◌, ◌≤◌, map, drop}
use Rattle.std.specs.Prelude.{max}
use Rattle.fb_types_blocks.specs.Views.{block_of, states_of}
use Rattle.fb_find_laws.specs.Nodes.{capped}
use Rattle.fb_work_charts.specs.Charges.{most_trials}
use Rattle.fb_work_charts.proofs.Named.{state_of}
use Rattle.fb_work_charts.proofs.Tariffs.{tariff_in}
use Rattle.fb_work_charts.proofs.input.most_trials.Given as goal

abbrev pub invariant-loop-index : goal.invariant-loop-index
invariant-loop-index l =
    record {
      few : l.most ≤ 1000000000001;
      rest :
          capped (max l.most (most_trials (tariff_in l.scene l.block) (block_of l.block) l.event (map state_of (drop l.index l.block.states.entries))))
          ≡ capped (most_trials (tariff_in l.scene l.block) (block_of l.block) l.event (states_of l.block.states));
    }
