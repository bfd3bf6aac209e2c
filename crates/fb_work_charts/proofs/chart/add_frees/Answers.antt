use Rattle.std.proofs.Common.{◌≡◌, ◌+◌, false, true, [], ◌∷◌, ◌++◌, map, take, drop, not, ap, ◌∙◌, string_bytes}
use Rattle.std.specs.Option.{is_some}
use Rattle.fb_types_blocks.specs.Views.{block_of, transition_of}
use Rattle.fb_find_laws.specs.Nodes.{capped}
use Rattle.fb_work_charts.specs.Charges.{free_work, frees}
use Rattle.fb_work_charts.proofs.Transitions.{none_named, one_named, free_here, free_past}
use Rattle.fb_work_charts.proofs.Turns.{taken_more, turn_after, one_pushed, none_pushed}
use Rattle.fb_work_charts.specs.Reckoning.{all_capped}
use Rattle.fb_work_charts.proofs.Tariffs.{tariff_in}
use Rattle.fb_work_charts.proofs.chart.add_frees.Goals as goal
use Rattle.fb_work_charts.proofs.chart.add_frees.Goals.{then-is_none+in_ok-push, else-is_none}

pub loop-index-preserved : goal.loop-index-preserved
loop-index-preserved c =
    let block = block_of c.args.block.now in
    let tariff = tariff_in c.args.scene.now c.args.block.now in
    let xs = c.as_slice-transitions.result.now in
    let i = c.loop-index.index in
    let x = c.index-transitions-index.result in
    let t = transition_of x in
    let before = map transition_of (take i xs) in
    let left = map transition_of (drop (i + 1) xs) in
    let work = free_work tariff block (before ++ t ∷ []) t in
    let all = frees tariff block in
    let whole = c.args.works.now.items ++ all_capped (all [] (map transition_of xs)) in
    let old = c.loop-index.works.items in
    let new = c.if-is_none.works in
    let l = c.loop-index-test.true in
    let is = c.index-transitions-index.is in
    elim c.if-is_none.branch [
      | then-is_none+in_ok-push w ↦
          let none : is_some x.event ≡ false = c.is_none.ensures ∙ ap not w.if-is_none.true in
          let here = free_here tariff block before t left (none_named string_bytes x.event none) in
          let one : w.free_work.result ≡ capped work =
          w.free_work.ensures ∙ ap (λ ys. capped (free_work tariff block ys t)) (taken_more transition_of xs i x l is) in
          let items = one_pushed new w.push.new.self old w.free_work.result (capped work) w.works-is w.in_ok-push.ensures.items one in
          turn_after transition_of xs i x l is all (work ∷ []) old new.items whole here items c.loop-index.invariant
      | else-is_none w ↦
          let some : is_some x.event ≡ true = c.is_none.ensures ∙ ap not w.if-is_none.false in
          let past = free_past tariff block before t left (one_named string_bytes x.event some) in
          let items = none_pushed new c.loop-index.works w.works-is in
          turn_after transition_of xs i x l is all [] old new.items whole past items c.loop-index.invariant
    ]
