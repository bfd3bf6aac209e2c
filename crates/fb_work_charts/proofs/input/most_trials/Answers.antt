use Rattle.std.proofs.Common.{◌≡◌, List, map, Some, refl, string_bytes}
use Rattle.std.specs.declared.string.String.{String}
use Rattle.std.specs.declared.vec.Vec.{Vec}
use Rattle.std.specs.declared.alloc.Global.{Global}
use Rattle.fb_model_work.specs.Work.{trials}
use Rattle.fb_types_blocks.specs.declared.typed.Action.{Action}
use Rattle.fb_types_blocks.specs.Views.{block_of}
use Rattle.fb_find_laws.specs.Nodes.{capped}
use Rattle.fb_find_demands.proofs.Loops.{rest_at}
use Rattle.fb_work_charts.specs.Charges.{most_trials}
use Rattle.fb_work_charts.proofs.Capping.{most_below}
use Rattle.fb_work_charts.proofs.Named.{state_of}
use Rattle.fb_work_charts.proofs.Turns.{most_turn}
use Rattle.fb_work_charts.proofs.Tariffs.{tariff_in}
use Rattle.fb_work_charts.proofs.input.most_trials.Goals as goal

pub loop-index-preserved : goal.loop-index-preserved
loop-index-preserved c =
    let block = block_of c.args.block.now in
    let tariff = tariff_in c.args.scene.now c.args.block.now in
    let f = λ (es : List (String Global × Vec Action Global)). most_trials tariff block c.args.event.now (map state_of es) in
    let xs = c.args.block.now.states.entries in
    let i = c.loop-index.index in
    let x : String Global × Vec Action Global = (c.in-Some.name.now, c.in-Some.field-0-1.now) in
    let here = trials tariff.prices block.transitions (string_bytes x.0) (Some c.args.event.now) in
    let most = c.loop-index.most in
    let new = c.max-most.ensures in
    let tried = c.trials_work-tried.result in
    let one : tried ≡ capped here = rw (c.deref.ensures.value, c.as_str.ensures.value) at c.trials_work-tried.ensures in
    record {
      few = most_below most tried c.max-most.result here new one c.loop-index.invariant.few;
      rest = most_turn f xs i x _ (rest_at xs i x c.in-Some.ensures.entry) here most tried c.max-most.result refl new one c.loop-index.invariant.rest;
    }
