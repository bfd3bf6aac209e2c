use Rattle.std.proofs.Common.{◌≡◌, ◌+◌, Some, [], ◌∷◌, ◌++◌, map, take, drop, sym, ap, ◌∙◌}
use Rattle.fb_model.specs.Charts.{is_open}
use Rattle.fb_types_blocks.specs.Views.{block_of, transition_of}
use Rattle.fb_find_laws.specs.Nodes.{capped}
use Rattle.fb_work_charts.specs.Charges.{crossing_work, crossings}
use Rattle.fb_work_charts.proofs.Transitions.{crossing_here, crossing_past}
use Rattle.fb_work_charts.proofs.Turns.{taken_more, turn_after, one_pushed, none_pushed}
use Rattle.fb_work_charts.specs.Reckoning.{all_capped}
use Rattle.fb_work_charts.proofs.Tariffs.{tariff_in}
use Rattle.fb_work_charts.proofs.input.add_crossings.Goals as goal
use Rattle.fb_work_charts.proofs.input.add_crossings.Goals.{then-is_open+in_ok-push, else-is_open}

pub loop-index-preserved : goal.loop-index-preserved
loop-index-preserved c =
    let block = block_of c.args.block.now in
    let tariff = tariff_in c.args.scene.now c.args.block.now in
    let e = c.args.event.now in
    let xs = c.as_slice-transitions.result.now in
    let i = c.loop-index.index in
    let x = c.index-transitions-index.result in
    let t = transition_of x in
    let before = map transition_of (take i xs) in
    let left = map transition_of (drop (i + 1) xs) in
    let work = crossing_work tariff block e (before ++ t ∷ []) t in
    let all = crossings tariff block e in
    let whole = c.args.works.now.items ++ all_capped (all [] (map transition_of xs)) in
    let old = c.loop-index.works.items in
    let new = c.if-is_open.works in
    let l = c.loop-index-test.true in
    let is = c.index-transitions-index.is in
    let tested : is_open t.event (Some e) ≡ c.is_open.result = sym c.is_open.ensures in
    elim c.if-is_open.branch [
      | then-is_open+in_ok-push w ↦
          let here = crossing_here tariff block e before t left (tested ∙ w.if-is_open.true) in
          let one : w.crossing_work.result ≡ capped work =
          w.crossing_work.ensures ∙ ap (λ ys. capped (crossing_work tariff block e ys t)) (taken_more transition_of xs i x l is) in
          let items = one_pushed new w.push.new.self old w.crossing_work.result (capped work) w.works-is w.in_ok-push.ensures.items one in
          turn_after transition_of xs i x l is all (work ∷ []) old new.items whole here items c.loop-index.invariant
      | else-is_open w ↦
          let past = crossing_past tariff block e before t left (tested ∙ w.if-is_open.false) in
          let items = none_pushed new c.loop-index.works w.works-is in
          turn_after transition_of xs i x l is all [] old new.items whole past items c.loop-index.invariant
    ]
