use Rattle.std.proofs.Common.{◌≡◌, ◌∙◌, List, take, sym, ap, subst, string_bytes}
use Rattle.std.specs.Str.{bytes_eq}
use Rattle.fb_chart.specs.declared.table.Transition.{Transition}
use Rattle.fb_chart.specs.Tables.{Each}
use Rattle.fb_device_tables.specs.Filling.{leaving_from, IsTransitionMade}
use Rattle.fb_device_tables.proofs.Leaving.{each_leaving, each_staying}
use Rattle.fb_device_tables.proofs.state.leaving.Goals as goal
use Rattle.fb_device_tables.proofs.state.leaving.Goals.{then-eq+in_ok-transition+in_ok-push, else-eq}

pub loop-source-preserved : goal.loop-source-preserved
loop-source-preserved c =
    let made = IsTransitionMade c.args.own.now c.args.block.now in
    let ts = c.args.sources.now in
    let x = c.args.name.now in
    let i = c.loop-source.source-index in
    let t = c.source-item.result in
    let ys = c.loop-source.transitions.items in
    let tested : bytes_eq (string_bytes t.source) x ≡ c.eq.result = ap (λ y. bytes_eq y x) (sym c.as_str.ensures.value) ∙ sym c.eq.ensures in
    elim c.if-eq.branch [
      | then-eq+in_ok-transition+in_ok-push w ↦
          each_leaving made x ts i t ys c.if-eq.transitions.items w.in_ok-transition.field-0 c.loop-source-test.true c.source-item.is (tested ∙ w.if-eq.true) (ap (λ v. v.items) w.transitions-is ∙ w.in_ok-push.ensures.items) c.loop-source.invariant w.in_ok-transition.ensures
      | else-eq w ↦ each_staying made x ts i t c.if-eq.transitions.items c.loop-source-test.true c.source-item.is (tested ∙ w.if-eq.false)
          (subst (λ (zs : List Transition). Each made (leaving_from x (take i ts)) zs) (sym (ap (λ v. v.items) w.transitions-is)) c.loop-source.invariant)
    ]
