use Rattle.std.proofs.Common.{ap, ◌∙◌, string_bytes}
use Rattle.fb_model.specs.Demands.{state, work, emitted, free_demand}
use Rattle.fb_find_demands.specs.declared.right.Right.{Right}
use Rattle.fb_find_demands.specs.Grounds.{actions_in, ground_in}
use Rattle.fb_find_demands.specs.Rights.{numbers_of}
use Rattle.fb_find_demands.proofs.Charts.{says, emits_more, same_numbers, sum_is}
use Rattle.fb_find_demands.proofs.chart.free_right.Goals as goal

pub returns : goal.returns
returns c = λ states h.
    let n = c.args.scene.now.numbering.now in
    let g = ground_in c.args.scene.now in
    let source = string_bytes c.args.spent.now.state in
    let actions = actions_in states source in
    let r : Right = record { node = c.in_ok-state-2.field-0; constant = c.added.result; terms = c.push.new.self } in
    says (numbers_of n) (free_demand g actions source c.args.target.now) r
    (c.in_ok-state-2.ensures ∙ ap (λ x. numbers_of n (state (g.own x))) c.as_str.ensures.value)
    (c.added.ensures ∙ sum_is c.args.spent.now.work (work g actions) c.args.scene.now.unit h.runs)
    (c.in_ok-push.ensures.items ∙ emits_more (numbers_of n) c.in_ok-terms.terms.items (emitted g actions) c.in_ok-state.field-0 (state (g.own c.args.target.now)) (same_numbers c.args.spent.now.terms.items c.in_ok-terms.terms.items c.in_ok-terms.ensures.cases.0 ∙ h.emits) c.in_ok-state.ensures)
