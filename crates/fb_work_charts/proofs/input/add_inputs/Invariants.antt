use Rattle.std.proofs.Common.{◌≡◌, List, ◌++◌, map, drop}
use Rattle.std.specs.List.{flat_map}
use Rattle.fb_model.specs.Names.{Name}
use Rattle.fb_model.specs.Certificates.{event_names}
use Rattle.fb_types_blocks.specs.Views.{block_of, events_of}
use Rattle.fb_work_charts.specs.Charges.{input_works}
use Rattle.fb_work_charts.specs.Reckoning.{all_capped}
use Rattle.fb_work_charts.proofs.Named.{event_in}
use Rattle.fb_work_charts.proofs.Tariffs.{tariff_in}
use Rattle.fb_work_charts.proofs.input.add_inputs.Given as goal

abbrev pub invariant-loop-index : goal.invariant-loop-index
invariant-loop-index l =
    let all = λ (names : List Name). all_capped (flat_map (input_works (tariff_in l.scene l.block) (block_of l.block)) names) in
    l.works.items ++ all (event_names (map event_in (drop l.index l.block.face.event_inputs.entries)))
    ≡ l.initial.works.items ++ all (event_names (events_of l.block.face.event_inputs))
