use Rattle.std.proofs.Common.{◌≡◌, ◌+◌, ◌^◌, ◌<◌, length, drop, slice_index_or, None, refl, sym, ap, subst, ◌∙◌, arith}
use Rattle.std.specs.Prelude.{IfSome}
use Rattle.std.specs.List.{AllByRecursion}
use Rattle.std.proofs.lemmas.List.{drop_all}
use Rattle.std.proofs.lemmas.Option.{slice_get-get_or}
use Rattle.fb_model.specs.Language.{Done}
use Rattle.fb_model.specs.Charts.{work as runs, actions_of, Acting}
use Rattle.st_exec.specs.Cells.{values_of, forms_of}
use Rattle.st_exec.specs.Runs.{EndsWithin}
use Rattle.fb_chart.specs.declared.table.Action.{Action}
use Rattle.fb_chart.specs.declared.table.ChartCode.{ChartCode}
use Rattle.fb_chart.specs.Views.{named}
use Rattle.fb_chart.specs.Tables.{Each, IsAction, IsState}
use Rattle.fb_chart.specs.Charting.{block_in, states_in, events_in, outputs_in, CanWork, numbered, sent_by, cells_of}
use Rattle.fb_lists.proofs.Lists.{stands_at, drop_at}
use Rattle.fb_chart.proofs.Lists.{each_length}
use Rattle.fb_chart.proofs.Choosing.{names_length}
use Rattle.fb_chart.proofs.Doing.{not_gone, room_kept, first_actions, within_now, works_now, small_now, output_now, steps_now, room_now, gives_now, it, come_next, come_done}
use Rattle.fb_chart.proofs.chart.act.Goals as goal

pub index-requires : goal.index-requires
index-requires g c =
    let k = c.args.invocation.now.chart.now in
    omega (arith, c.requires.state, names_length (block_in k).states, each_length (IsState (forms_of c.args.own.now) (events_in k) (outputs_in k) (block_in k)) (block_in k).states k.code.value.states.items c.requires.ready.chart.states, ap (λ (y : ChartCode). length y.states.items) c.deref.ensures, c.deref.result.now.states.ok.0)

pub loop-action-init : goal.loop-action-init
loop-action-init g c =
    let k = c.args.invocation.now.chart.now in
    let l : c.args.state < length k.code.value.states.items = omega (arith, c.requires.state, names_length (block_in k).states, each_length (IsState (forms_of c.args.own.now) (events_in k) (outputs_in k) (block_in k)) (block_in k).states k.code.value.states.items c.requires.ready.chart.states) in
    let x = c.index.result.now in
    let actions = actions_of (block_in k).states (named (states_in k) c.args.state) in (
      actions,
      first_actions k c.args.invocation.now.outputs.now c.args.own.now c.args.issued.now c.requires.ready c.args.state c.args.before c.args.invocation.now.most (g.E.Emit.room c.args.emit.now) c.requires.few c.requires.fine (g.E.Emit.sent c.args.emit.now)
          x c.deref-action-items.result.now (stands_at k.code.value.states.items c.args.state x x l (subst (λ (y : ChartCode). x ≡ slice_index_or y.states.items c.args.state x) c.deref.ensures c.index.ensures)) c.deref-action-items.ensures.value,
      not_gone (block_in k) c.args.invocation.now.outputs.now (named (states_in k) c.args.state) (cells_of c.args.own.now c.args.issued.now) (Acting actions) c.args.before (g.E.Emit.sent c.args.emit.now),
      refl,
      refl,
      refl,
      refl,
    )

pub work-steps-requires-clause-within : goal.work-steps-requires-clause-within
work-steps-requires-clause-within g c =
    let k = c.args.invocation.now.chart.now in
    let i = c.loop-action.action-index in
    let items = c.deref-action-items.result.now in
    let none : Action = record { algorithm = None; output = None } in
    let x = slice_index_or items i none in
    let v = c.loop-action.invariant in
    let d = drop_at items i x (slice_get-get_or items i none c.loop-action-test.true) in
    let each = subst (Each (IsAction (block_in k) (outputs_in k)) v.0) d v.1 in
    subst (λ ps. IfSome x.algorithm (λ n. n < length ps)) (sym (c.deref-in-loop-action-2.ensures.value ∙ ap (λ (y : ChartCode). y.procedures.items) c.deref-in-loop-action.ensures))
    (within_now k c.args.invocation.now.outputs.now c.args.own.now c.args.issued.now c.requires.ready c.args.state c.args.before c.args.invocation.now.most (g.E.Emit.room c.args.emit.now) c.requires.few c.requires.fine (g.E.Emit.sent c.args.emit.now)
    c.loop-action.own c.loop-action.issued v.0 c.loop-action.steps (g.E.Emit.sent c.loop-action.emit) v.2 v.3 v.4 x (drop (i + 1) items) each)

pub work-steps-requires-clause-can : goal.work-steps-requires-clause-can
work-steps-requires-clause-can g c =
    let k = c.args.invocation.now.chart.now in
    let i = c.loop-action.action-index in
    let items = c.deref-action-items.result.now in
    let none : Action = record { algorithm = None; output = None } in
    let x = slice_index_or items i none in
    let v = c.loop-action.invariant in
    let d = drop_at items i x (slice_get-get_or items i none c.loop-action-test.true) in
    let each = subst (Each (IsAction (block_in k) (outputs_in k)) v.0) d v.1 in
    subst (AllByRecursion (CanWork (forms_of c.loop-action.own))) (sym (c.deref-in-loop-action-2.ensures.value ∙ ap (λ (y : ChartCode). y.procedures.items) c.deref-in-loop-action.ensures))
    (works_now k c.args.invocation.now.outputs.now c.args.own.now c.args.issued.now c.requires.ready c.args.state c.args.before c.args.invocation.now.most (g.E.Emit.room c.args.emit.now) c.requires.few c.requires.fine (g.E.Emit.sent c.args.emit.now)
    c.loop-action.own c.loop-action.issued v.0 c.loop-action.steps (g.E.Emit.sent c.loop-action.emit) v.2 v.3 v.4 x (drop (i + 1) items) each)

pub work-steps-requires-clause-small : goal.work-steps-requires-clause-small
work-steps-requires-clause-small g c =
    let k = c.args.invocation.now.chart.now in
    let i = c.loop-action.action-index in
    let items = c.deref-action-items.result.now in
    let none : Action = record { algorithm = None; output = None } in
    let x = slice_index_or items i none in
    let v = c.loop-action.invariant in
    let d = drop_at items i x (slice_get-get_or items i none c.loop-action-test.true) in
    let each = subst (Each (IsAction (block_in k) (outputs_in k)) v.0) d v.1 in
    subst (λ ps. EndsWithin (10 ^ 12) (runs (numbered ps x.algorithm) (values_of c.loop-action.own))) (sym (c.deref-in-loop-action-2.ensures.value ∙ ap (λ (y : ChartCode). y.procedures.items) c.deref-in-loop-action.ensures))
    (small_now k c.args.invocation.now.outputs.now c.args.own.now c.args.issued.now c.requires.ready c.args.state c.args.before c.args.invocation.now.most (g.E.Emit.room c.args.emit.now) c.requires.few c.requires.fine (g.E.Emit.sent c.args.emit.now)
    c.loop-action.own c.loop-action.issued v.0 c.loop-action.steps (g.E.Emit.sent c.loop-action.emit) v.2 v.3 v.4 x (drop (i + 1) items) each)

pub overflow_add-steps : goal.overflow_add-steps
overflow_add-steps g c =
    let k = c.args.invocation.now.chart.now in
    let i = c.loop-action.action-index in
    let items = c.deref-action-items.result.now in
    let none : Action = record { algorithm = None; output = None } in
    let x = slice_index_or items i none in
    let v = c.loop-action.invariant in
    let d = drop_at items i x (slice_get-get_or items i none c.loop-action-test.true) in
    let each = subst (Each (IsAction (block_in k) (outputs_in k)) v.0) d v.1 in
    let done = subst (λ ps. runs (numbered ps x.algorithm) (values_of c.loop-action.own) ≡ Done (values_of c.work-steps.new.own) c.work-steps.result) (c.deref-in-loop-action-2.ensures.value ∙ ap (λ (y : ChartCode). y.procedures.items) c.deref-in-loop-action.ensures) c.work-steps.ensures.answers in
    let s = steps_now k c.args.invocation.now.outputs.now c.args.own.now c.args.issued.now c.requires.ready c.args.state c.args.before c.args.invocation.now.most (g.E.Emit.room c.args.emit.now) c.requires.few c.requires.fine (g.E.Emit.sent c.args.emit.now)
    c.loop-action.own c.loop-action.issued v.0 c.loop-action.steps (g.E.Emit.sent c.loop-action.emit) v.2 v.3 v.4 x (drop (i + 1) items) each c.work-steps.new.own c.work-steps.result done in
    omega (arith, s, c.requires.few)

pub send-requires-clause-output : goal.send-requires-clause-output
send-requires-clause-output g c =
    let k = c.args.invocation.now.chart.now in
    let i = c.loop-action.action-index in
    let items = c.deref-action-items.result.now in
    let none : Action = record { algorithm = None; output = None } in
    let x = slice_index_or items i none in
    let v = c.loop-action.invariant in
    let d = drop_at items i x (slice_get-get_or items i none c.loop-action-test.true) in
    let each = subst (Each (IsAction (block_in k) (outputs_in k)) v.0) d v.1 in
    output_now k c.args.invocation.now.outputs.now c.args.own.now c.args.issued.now c.requires.ready c.args.state c.args.before c.args.invocation.now.most (g.E.Emit.room c.args.emit.now) c.requires.few c.requires.fine (g.E.Emit.sent c.args.emit.now)
    c.loop-action.own c.loop-action.issued v.0 c.loop-action.steps (g.E.Emit.sent c.loop-action.emit) v.2 v.3 v.4 x (drop (i + 1) items) each

pub send-requires-clause-gives : goal.send-requires-clause-gives
send-requires-clause-gives g c =
    let k = c.args.invocation.now.chart.now in
    let i = c.loop-action.action-index in
    let items = c.deref-action-items.result.now in
    let none : Action = record { algorithm = None; output = None } in
    let x = slice_index_or items i none in
    let v = c.loop-action.invariant in
    let d = drop_at items i x (slice_get-get_or items i none c.loop-action-test.true) in
    let each = subst (Each (IsAction (block_in k) (outputs_in k)) v.0) d v.1 in
    let done = subst (λ ps. runs (numbered ps x.algorithm) (values_of c.loop-action.own) ≡ Done (values_of c.work-steps.new.own) c.work-steps.result) (c.deref-in-loop-action-2.ensures.value ∙ ap (λ (y : ChartCode). y.procedures.items) c.deref-in-loop-action.ensures) c.work-steps.ensures.answers in
    gives_now k c.args.invocation.now.outputs.now c.args.own.now c.args.issued.now c.requires.ready c.args.state c.args.before c.args.invocation.now.most (g.E.Emit.room c.args.emit.now) c.requires.few c.requires.fine (g.E.Emit.sent c.args.emit.now)
    c.loop-action.own c.loop-action.issued v.0 c.loop-action.steps (g.E.Emit.sent c.loop-action.emit) v.2 v.3 v.4 x (drop (i + 1) items) each c.work-steps.new.own c.work-steps.result done c.work-steps.ensures.forms

pub send-requires-clause-room : goal.send-requires-clause-room
send-requires-clause-room g c =
    let k = c.args.invocation.now.chart.now in
    let i = c.loop-action.action-index in
    let items = c.deref-action-items.result.now in
    let none : Action = record { algorithm = None; output = None } in
    let x = slice_index_or items i none in
    let v = c.loop-action.invariant in
    let d = drop_at items i x (slice_get-get_or items i none c.loop-action-test.true) in
    let each = subst (Each (IsAction (block_in k) (outputs_in k)) v.0) d v.1 in
    let done = subst (λ ps. runs (numbered ps x.algorithm) (values_of c.loop-action.own) ≡ Done (values_of c.work-steps.new.own) c.work-steps.result) (c.deref-in-loop-action-2.ensures.value ∙ ap (λ (y : ChartCode). y.procedures.items) c.deref-in-loop-action.ensures) c.work-steps.ensures.answers in
    room_now k c.args.invocation.now.outputs.now c.args.own.now c.args.issued.now c.requires.ready c.args.state c.args.before c.args.invocation.now.most (g.E.Emit.room c.args.emit.now) c.requires.few c.requires.fine (g.E.Emit.sent c.args.emit.now)
    c.loop-action.own c.loop-action.issued v.0 c.loop-action.steps (g.E.Emit.sent c.loop-action.emit) v.2 v.3 v.4 x (drop (i + 1) items) each c.work-steps.new.own c.work-steps.result done (g.E.Emit.room c.loop-action.emit) v.5

pub loop-action-preserved : goal.loop-action-preserved
loop-action-preserved g c =
    let k = c.args.invocation.now.chart.now in
    let i = c.loop-action.action-index in
    let items = c.deref-action-items.result.now in
    let none : Action = record { algorithm = None; output = None } in
    let x = slice_index_or items i none in
    let v = c.loop-action.invariant in
    let d = drop_at items i x (slice_get-get_or items i none c.loop-action-test.true) in
    let each = subst (Each (IsAction (block_in k) (outputs_in k)) v.0) d v.1 in
    let done = subst (λ ps. runs (numbered ps x.algorithm) (values_of c.loop-action.own) ≡ Done (values_of c.work-steps.new.own) c.work-steps.result) (c.deref-in-loop-action-2.ensures.value ∙ ap (λ (y : ChartCode). y.procedures.items) c.deref-in-loop-action.ensures) c.work-steps.ensures.answers in
    let f = it k c.args.invocation.now.outputs.now c.args.own.now c.args.issued.now c.requires.ready c.args.state c.args.before c.args.invocation.now.most (g.E.Emit.room c.args.emit.now) c.requires.few c.requires.fine (g.E.Emit.sent c.args.emit.now)
    c.loop-action.own c.loop-action.issued v.0 c.loop-action.steps (g.E.Emit.sent c.loop-action.emit) v.2 v.3 v.4 x (drop (i + 1) items) each in (
      f.left,
      f.each,
      come_next k c.args.invocation.now.outputs.now c.args.own.now c.args.issued.now c.requires.ready c.args.state c.args.before c.args.invocation.now.most (g.E.Emit.room c.args.emit.now) c.requires.few c.requires.fine (g.E.Emit.sent c.args.emit.now)
          c.loop-action.own c.loop-action.issued v.0 c.loop-action.steps (g.E.Emit.sent c.loop-action.emit) v.2 v.3 v.4 x (drop (i + 1) items) each c.work-steps.new.own c.work-steps.result done
          c.send.new.issued (g.E.Emit.sent c.send.new.emit) c.send.ensures.issued c.send.ensures.sent,
      c.work-steps.ensures.forms ∙ v.3,
      c.send.ensures.forms ∙ v.4,
      room_kept (g.E.Emit.room c.args.emit.now) (g.E.Emit.room c.loop-action.emit) (g.E.Emit.room c.send.new.emit) (g.E.Emit.sent c.args.emit.now) (g.E.Emit.sent c.loop-action.emit) (g.E.Emit.sent c.send.new.emit) (sent_by c.args.invocation.now.outputs.now x.output)
          v.5 c.send.ensures.sent c.send.ensures.room,
      c.send.ensures.same_reference ∙ v.6,
    )

pub returns-clause-come : goal.returns-clause-come
returns-clause-come g c =
    let k = c.args.invocation.now.chart.now in
    let v = c.loop-action.invariant in
    let n = drop_all c.loop-action.action-index c.deref-action-items.result.now c.loop-action-test.false in
    come_done k c.args.invocation.now.outputs.now c.args.own.now c.args.issued.now c.requires.ready c.args.state c.args.before c.args.invocation.now.most (g.E.Emit.room c.args.emit.now) c.requires.few c.requires.fine (g.E.Emit.sent c.args.emit.now)
    c.loop-action.own c.loop-action.issued v.0 c.loop-action.steps (g.E.Emit.sent c.loop-action.emit) v.2 (subst (Each (IsAction (block_in k) (outputs_in k)) v.0) n v.1)
