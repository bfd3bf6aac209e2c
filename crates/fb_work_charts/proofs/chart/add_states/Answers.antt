use Rattle.std.proofs.Common.{◌≡◌, List, [], ◌∷◌, ◌++◌, map, None, refl, ap, ◌∙◌, string_bytes}
use Rattle.std.specs.declared.string.String.{String}
use Rattle.std.specs.declared.vec.Vec.{Vec}
use Rattle.std.specs.declared.alloc.Global.{Global}
use Rattle.fb_model_work.specs.Work.{trials}
use Rattle.fb_types_blocks.specs.declared.typed.Action.{Action}
use Rattle.fb_types_blocks.specs.Views.{action_of, block_of}
use Rattle.fb_find_laws.specs.Nodes.{capped}
use Rattle.fb_find_demands.proofs.Loops.{rest_at, turn}
use Rattle.fb_work_charts.specs.Charges.{actions_work, state_work}
use Rattle.fb_work_charts.specs.Reckoning.{all_capped}
use Rattle.fb_work_charts.proofs.Capping.{both}
use Rattle.fb_work_charts.proofs.Named.{state_of}
use Rattle.fb_work_charts.proofs.Tariffs.{tariff_in}
use Rattle.fb_work_charts.proofs.chart.add_states.Goals as goal

pub loop-index-preserved : goal.loop-index-preserved
loop-index-preserved c =
    let block = block_of c.args.block.now in
    let tariff = tariff_in c.args.scene.now c.args.block.now in
    let xs = c.args.block.now.states.entries in
    let i = c.loop-index.index in
    let x : String Global × Vec Action Global = (c.in-Some.name.now, c.in-Some.actions.now) in
    let old = c.loop-index.works.items in
    let tries = trials tariff.prices block.transitions (string_bytes x.0) None in
    let acts = actions_work tariff block (map action_of x.1.items) in
    let tried : c.trials_work-tried.result ≡ capped tries = rw (c.deref.ensures.value, c.as_str.ensures.value) at c.trials_work-tried.ensures in
    let own : c.actions_work-own.result ≡ capped acts = rw c.as_slice.ensures.value at c.actions_work-own.ensures in
    let one = both acts tries c.added.ensures own tried in
    let f = λ (es : List (String Global × Vec Action Global)). all_capped (map (state_work tariff block) (map state_of es)) in
    let rest = rest_at xs i x c.in-Some.ensures.entry in
    let pushed = c.in_ok-push.ensures.items ∙ ap (λ k. old ++ k ∷ []) one in
    turn f xs i x (capped (state_work tariff block (state_of x)) ∷ []) old c.push.new.self.items _ rest refl pushed c.loop-index.invariant
