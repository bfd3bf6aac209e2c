use Rattle.std.proofs.Common.{◌≡◌, ◌++◌, [], map, take, drop}
use Rattle.fb_types_blocks.specs.Views.{block_of, transition_of}
use Rattle.fb_work_charts.specs.Charges.{crossings}
use Rattle.fb_work_charts.specs.Reckoning.{all_capped}
use Rattle.fb_work_charts.proofs.Tariffs.{tariff_in}
use Rattle.fb_work_charts.proofs.input.add_crossings.Given as goal

abbrev pub invariant-loop-index : goal.invariant-loop-index
invariant-loop-index l =
    let all = crossings (tariff_in l.scene l.block) (block_of l.block) l.event in
    l.works.items ++ all_capped (all (map transition_of (take l.index l.transitions)) (map transition_of (drop l.index l.transitions)))
    ≡ l.initial.works.items ++ all_capped (all [] (map transition_of l.transitions))
