use Rattle.std.proofs.Common.{◌≡◌, ◌+◌, List, map, drop, Bor, sym, ap, ◌∙◌}
use Rattle.std.specs.Option.{option_map}
use Rattle.std.specs.Str.{bytes_eq}
use Rattle.fb_model.specs.Names.{Name}
use Rattle.fb_model_work.specs.Spending.{in_trial}
use Rattle.fb_model_work.specs.Work.{trials}
use Rattle.fb_prices.specs.Words.{prices_of}
use Rattle.fb_types_blocks.specs.declared.typed.Transition.{Transition}
use Rattle.fb_types_blocks.specs.Views.{transition_of}
use Rattle.fb_find_demands.proofs.Loops.{rest_of}
use Rattle.fb_work_charts.proofs.Capping.{below}
use Rattle.fb_work_charts.proofs.Transitions.{trials_here, trials_past}
use Rattle.fb_work_charts.proofs.Turns.{sum_turn, sum_past}
use Rattle.fb_work_charts.proofs.trial.trials_work.Goals as goal
use Rattle.fb_work_charts.proofs.trial.trials_work.Goals.{then-eq, else-eq}

pub loop-transition-preserved : goal.loop-transition-preserved
loop-transition-preserved c =
    let prices = prices_of c.args.prices.now in
    let w = option_map (λ (e : Bor Name). e.now) c.args.waiting in
    let s = c.args.source.now in
    let f = λ (ts : List Transition). trials prices (map transition_of ts) s w in
    let xs = c.args.transitions.now in
    let i = c.loop-transition.transition-index in
    let x = c.transition-item.result in
    let t = transition_of x in
    let sum = c.loop-transition.sum in
    let others = map transition_of (drop (i + 1) xs) in
    let left = c.loop-transition.invariant.rest in
    let rest = rest_of xs i x c.loop-transition-test.true c.transition-item.is in
    let tested : bytes_eq t.source s ≡ c.eq.result = ap (λ y. bytes_eq y s) (sym c.as_str.ensures.value) ∙ sym c.eq.ensures in
    elim c.if-eq.branch [
      | then-eq v ↦
          let new = v.sum-is ∙ v.added-sum.ensures in
          let here = trials_here prices t others s w (tested ∙ v.if-eq.true) in
          record {
            few = below c.if-eq.sum _ new;
            rest = sum_turn f xs i x _ rest (in_trial prices w t) sum v.trial_work.result c.if-eq.sum here new v.trial_work.ensures left;
          }
      | else-eq v ↦
          let past = trials_past prices t others s w (tested ∙ v.if-eq.false) in
          record {
            few = rw v.sum-is c.loop-transition.invariant.few;
            rest = sum_past f xs i x _ rest sum c.if-eq.sum past v.sum-is left;
          }
    ]
