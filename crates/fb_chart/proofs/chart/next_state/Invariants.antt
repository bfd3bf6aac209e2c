use Rattle.std.proofs.Common.{◌≡◌, drop}
use Rattle.std.specs.Option.{option_map}
use Rattle.fb_model.specs.Charts.{choice}
use Rattle.st_exec.specs.Cells.{values_of}
use Rattle.fb_chart.specs.Views.{named}
use Rattle.fb_chart.specs.Tables.{leaving}
use Rattle.fb_chart.specs.Charting.{block_in, states_in, events_in}
use Rattle.fb_chart.proofs.chart.next_state.Given as goal

-- none before can be crossed
abbrev pub invariant-loop-transition : goal.invariant-loop-transition
invariant-loop-transition l =
    choice (drop l.transition-index (leaving (named (states_in l.chart) l.state) (block_in l.chart).transitions)) (named (states_in l.chart) l.state) (option_map (named (events_in l.chart)) l.event) (values_of l.own)
    ≡ choice (block_in l.chart).transitions (named (states_in l.chart) l.state) (option_map (named (events_in l.chart)) l.event) (values_of l.own)
