use Rattle.std.proofs.Common.{map, refl, sym, ap, ◌∙◌, arith}
use Rattle.fb_types_blocks.specs.Views.{action_of}
use Rattle.fb_model_laws.proofs.Alike.{alike_more, alike_whole, names_alike}
use Rattle.fb_types_same.proofs.Entries.{StateEntry, state_entry, states_alike}
use Rattle.fb_types_same.proofs.chart.same_states.Goals as goal

pub loop-at-init : goal.loop-at-init
loop-at-init c = refl

pub loop-at-preserved : goal.loop-at-preserved
loop-at-preserved c =
    let x : StateEntry = (c.in-Some-Some.name.now, c.in-Some-Some.actions.now) in
    let y : StateEntry = (c.in-Some-Some.next.now, c.in-Some-Some.like.now) in
    let name = names_alike x.0 y.0 c.if-ne.ensures in
    alike_more state_entry c.args.one.now.entries c.args.other.now.entries c.loop-at.at x y c.in-Some-Some.ensures.entry c.in-Some-Some.ensures'.entry (sym c.len.ensures.len ∙ c.if-len.false ∙ c.len-2.ensures.len) c.loop-at.invariant
    (states_alike x y name
    (ap (map action_of) (sym c.deref.ensures.value) ∙ c.if-not-same_actions.ensures refl ∙ ap (map action_of) c.deref-in-loop-at.ensures.value))

pub returns : goal.returns
returns c t =
    alike_whole state_entry c.args.one.now.entries c.args.other.now.entries c.loop-at.at (omega (arith, c.loop-at-test.false, c.len-at-end.ensures.len)) (sym c.len.ensures.len ∙ c.if-len.false ∙ c.len-2.ensures.len) c.loop-at.invariant
