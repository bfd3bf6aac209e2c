use Rattle.std.proofs.Common.{◌≡◌, ◌++◌, map, drop}
use Rattle.fb_types_blocks.specs.Views.{block_of, states_of}
use Rattle.fb_work_charts.specs.Charges.{state_work}
use Rattle.fb_work_charts.specs.Reckoning.{all_capped}
use Rattle.fb_work_charts.proofs.Named.{state_of}
use Rattle.fb_work_charts.proofs.Tariffs.{tariff_in}
use Rattle.fb_work_charts.proofs.chart.add_states.Given as goal

abbrev pub invariant-loop-index : goal.invariant-loop-index
invariant-loop-index l =
    l.works.items ++ all_capped (map (state_work (tariff_in l.scene l.block) (block_of l.block)) (map state_of (drop l.index l.block.states.entries)))
    ≡ l.initial.works.items ++ all_capped (map (state_work (tariff_in l.scene l.block) (block_of l.block)) (states_of l.block.states))
