use Rattle.std.proofs.Common.{◌≤◌, length, slice_get, Some, sym, ap, subst, ◌∙◌}
use Rattle.st_exec.specs.Cells.{values_of, forms_of}
use Rattle.fb_chart.specs.declared.table.ChartCode.{ChartCode}
use Rattle.fb_lists.proofs.Lists.{stands_at}
use Rattle.fb_chart.proofs.Choosing.{stays, left_first, left_last, step_placed, step_passed, step_asked, step_refused, step_taken, step_target}
use Rattle.fb_chart.proofs.chart.next_state.Goals.{else-is_open-via-then-is_open+else-is_true, else-is_open-via-else-is_open}
use Rattle.fb_chart.proofs.chart.next_state.Goals as goal

pub returns-in_default-clause-chosen : goal.returns-in_default-clause-chosen
returns-in_default-clause-chosen c =
    let few = subst (λ l. length l ≤ c.args.state) (c.deref-2.ensures.value ∙ ap (λ (x : ChartCode). x.states.items) c.deref.ensures) c.in_default.ensures.lookup.3 in
    stays (forms_of c.args.own.now) c.args.chart.now c.requires.chart c.requires.apart c.args.state c.args.event (values_of c.args.own.now) c.requires.event c.requires.closed c.requires.state few

pub loop-transition-init : goal.loop-transition-init
loop-transition-init c = left_first (forms_of c.args.own.now) c.args.chart.now c.requires.chart c.requires.apart c.args.state c.args.event (values_of c.args.own.now) c.requires.event

pub is_true-requires-clause-placed : goal.is_true-requires-clause-placed
is_true-requires-clause-placed c =
    let k = c.args.chart.now in
    let forms = forms_of c.args.own.now in
    let V = values_of c.args.own.now in
    let x = c.in-Some.current.now in
    let x_at = ap (λ l. slice_get l c.args.state) (sym (c.deref-2.ensures.value ∙ ap (λ (x : ChartCode). x.states.items) c.deref.ensures)) ∙ stands_at c.deref-2.result.now c.args.state x x c.in-Some.ensures.lookup.3.0 c.in-Some.ensures.lookup.1 in
    let items = c.deref-transition-items.result.now in
    let i = c.loop-transition.transition-index in
    let y = c.transition-item.result in
    let y_at = stands_at items i y y c.loop-transition-test.true c.transition-item.is in
    step_placed forms k c.requires.chart c.requires.apart c.args.state c.args.event V c.requires.event x x_at items c.deref-transition-items.ensures.value i y y_at c.loop-transition.invariant

pub is_true-requires-clause-clear : goal.is_true-requires-clause-clear
is_true-requires-clause-clear c =
    let k = c.args.chart.now in
    let forms = forms_of c.args.own.now in
    let V = values_of c.args.own.now in
    let x = c.in-Some.current.now in
    let x_at = ap (λ l. slice_get l c.args.state) (sym (c.deref-2.ensures.value ∙ ap (λ (x : ChartCode). x.states.items) c.deref.ensures)) ∙ stands_at c.deref-2.result.now c.args.state x x c.in-Some.ensures.lookup.3.0 c.in-Some.ensures.lookup.1 in
    let items = c.deref-transition-items.result.now in
    let i = c.loop-transition.transition-index in
    let y = c.transition-item.result in
    let y_at = stands_at items i y y c.loop-transition-test.true c.transition-item.is in
    step_asked forms k c.requires.chart c.requires.apart c.args.state c.args.event V c.requires.event x x_at items c.deref-transition-items.ensures.value i y y_at c.loop-transition.invariant
    (sym c.is_open.ensures ∙ c.if-is_open.true) c.requires.clear

pub returns-then-is_true-clause-chosen : goal.returns-then-is_true-clause-chosen
returns-then-is_true-clause-chosen c =
    let k = c.args.chart.now in
    let forms = forms_of c.args.own.now in
    let V = values_of c.args.own.now in
    let x = c.in-Some.current.now in
    let x_at = ap (λ l. slice_get l c.args.state) (sym (c.deref-2.ensures.value ∙ ap (λ (x : ChartCode). x.states.items) c.deref.ensures)) ∙ stands_at c.deref-2.result.now c.args.state x x c.in-Some.ensures.lookup.3.0 c.in-Some.ensures.lookup.1 in
    let items = c.deref-transition-items.result.now in
    let i = c.loop-transition.transition-index in
    let y = c.transition-item.result in
    let y_at = stands_at items i y y c.loop-transition-test.true c.transition-item.is in
    step_taken forms k c.requires.chart c.requires.apart c.args.state c.args.event V c.requires.event x x_at items c.deref-transition-items.ensures.value i y y_at c.loop-transition.invariant
    (sym c.is_open.ensures ∙ c.if-is_open.true) (c.is_true.ensures ∙ ap Some c.if-is_true.true)

pub returns-then-is_true-clause-within : goal.returns-then-is_true-clause-within
returns-then-is_true-clause-within c =
    let k = c.args.chart.now in
    let forms = forms_of c.args.own.now in
    let V = values_of c.args.own.now in
    let x = c.in-Some.current.now in
    let x_at = ap (λ l. slice_get l c.args.state) (sym (c.deref-2.ensures.value ∙ ap (λ (x : ChartCode). x.states.items) c.deref.ensures)) ∙ stands_at c.deref-2.result.now c.args.state x x c.in-Some.ensures.lookup.3.0 c.in-Some.ensures.lookup.1 in
    let items = c.deref-transition-items.result.now in
    let i = c.loop-transition.transition-index in
    let y = c.transition-item.result in
    let y_at = stands_at items i y y c.loop-transition-test.true c.transition-item.is in
    step_target forms k c.requires.chart c.requires.apart c.args.state c.args.event V c.requires.event x x_at items c.deref-transition-items.ensures.value i y y_at c.loop-transition.invariant

pub loop-transition-preserved : goal.loop-transition-preserved
loop-transition-preserved c =
    let k = c.args.chart.now in
    let forms = forms_of c.args.own.now in
    let V = values_of c.args.own.now in
    let x = c.in-Some.current.now in
    let x_at = ap (λ l. slice_get l c.args.state) (sym (c.deref-2.ensures.value ∙ ap (λ (x : ChartCode). x.states.items) c.deref.ensures)) ∙ stands_at c.deref-2.result.now c.args.state x x c.in-Some.ensures.lookup.3.0 c.in-Some.ensures.lookup.1 in
    let items = c.deref-transition-items.result.now in
    let i = c.loop-transition.transition-index in
    let y = c.transition-item.result in
    let y_at = stands_at items i y y c.loop-transition-test.true c.transition-item.is in
    elim c.else-is_open.branch [
      | else-is_open-via-then-is_open+else-is_true w ↦
          step_refused forms k c.requires.chart c.requires.apart c.args.state c.args.event V c.requires.event x x_at items c.deref-transition-items.ensures.value i y y_at c.loop-transition.invariant
          (sym c.is_open.ensures ∙ w.if-is_open.true) (w.is_true.ensures ∙ ap Some w.if-is_true.false)
      | else-is_open-via-else-is_open w ↦
          step_passed forms k c.requires.chart c.requires.apart c.args.state c.args.event V c.requires.event x x_at items c.deref-transition-items.ensures.value i y y_at c.loop-transition.invariant
          (sym c.is_open.ensures ∙ w.if-is_open.false)
    ]

pub returns-clause-chosen : goal.returns-clause-chosen
returns-clause-chosen c =
    let k = c.args.chart.now in
    let forms = forms_of c.args.own.now in
    let V = values_of c.args.own.now in
    let x = c.in-Some.current.now in
    let x_at = ap (λ l. slice_get l c.args.state) (sym (c.deref-2.ensures.value ∙ ap (λ (x : ChartCode). x.states.items) c.deref.ensures)) ∙ stands_at c.deref-2.result.now c.args.state x x c.in-Some.ensures.lookup.3.0 c.in-Some.ensures.lookup.1 in
    let items = c.deref-transition-items.result.now in
    let i = c.loop-transition.transition-index in
    sym c.loop-transition.invariant ∙ left_last forms k c.requires.chart c.requires.apart c.args.state c.args.event V c.requires.event x x_at items c.deref-transition-items.ensures.value i c.loop-transition-test.false
