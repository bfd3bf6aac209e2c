use Rattle.std.proofs.Common.{◌≤◌, List, Option, length, sym, subst}
use Rattle.fb_model.specs.Services.{can_emit}
use Rattle.fb_types_services.specs.Views.{service_of}
use Rattle.st_exec.specs.Cells.{values_of, forms_of}
use Rattle.fb_chart.specs.declared.table.Output.{Output}
use Rattle.fb_chart.specs.declared.memory.Condition.TheVariants.{State}
use Rattle.fb_chart.specs.declared.standing.Effect.{Effect}
use Rattle.fb_chart.specs.Conditions.{leaf_state}
use Rattle.fb_chart.specs.Dispatching.{HasRun}
use Rattle.fb_chart.specs.Views.{named, kind_of}
use Rattle.fb_chart.specs.Sending.{sent_to}
use Rattle.fb_chart.specs.Charting.{block_in, states_in, IsReady, cells_of, begun, FineFrom, HasRested}
use Rattle.fb_chart.specs.Responses.{event_at, leaf_of, effect_of}
use Rattle.fb_chart.specs.Serving.{CanServe, HasServed}
use Rattle.fb_chart.proofs.Charted.{chart_alone, ready, known_event, known_state, fine, condition_after, chart_ran}
use Rattle.fb_chart.proofs.Served.{service_alone, can_serve, can_receive, sends_fit, can_send, service_after, service_ran}
use Rattle.fb_chart.proofs.block.run.Goals as goal

-- ---- charts

pub unreachable-requires : goal.unreachable-requires
unreachable-requires g c =
    let a = c.args in
    chart_alone a.dispatched.now.block.now a.dispatched.now.ports.now a.own.now a.issued.now a.dispatched.now.condition a.occurrence.now.point.event a.occurrence.now.values.now a.dispatched.now.most _ c.requires.can c.in-Chart.chart c.in-Chart.is c.in-Service.field-0 c.in-Service.is

pub invoke-state-requires-clause-ready : goal.invoke-state-requires-clause-ready
invoke-state-requires-clause-ready g c =
    let a = c.args in
    let k = c.in-Chart.chart in
    subst (λ (os : List Output). IsReady k os (forms_of a.own.now) (forms_of a.issued.now)) (sym c.deref.ensures.value)
    (ready a.dispatched.now.block.now a.dispatched.now.ports.now a.own.now a.issued.now a.dispatched.now.condition a.occurrence.now.point.event a.occurrence.now.values.now a.dispatched.now.most _ c.requires.can k c.in-Chart.is)

pub invoke-state-requires-clause-state : goal.invoke-state-requires-clause-state
invoke-state-requires-clause-state g c =
    let a = c.args in
    known_state a.dispatched.now.block.now a.dispatched.now.ports.now a.own.now a.issued.now a.dispatched.now.condition a.occurrence.now.point.event a.occurrence.now.values.now a.dispatched.now.most _ c.requires.can c.in-Chart.chart c.in-Chart.is c.in-State.state c.in-State.is

pub invoke-state-requires-clause-event : goal.invoke-state-requires-clause-event
invoke-state-requires-clause-event g c =
    let a = c.args in
    known_event a.dispatched.now.block.now a.dispatched.now.ports.now a.own.now a.issued.now a.dispatched.now.condition a.occurrence.now.point.event a.occurrence.now.values.now a.dispatched.now.most _ c.requires.can c.in-Chart.chart c.in-Chart.is

pub invoke-state-requires-clause-fine : goal.invoke-state-requires-clause-fine
invoke-state-requires-clause-fine g c =
    let a = c.args in
    let k = c.in-Chart.chart in
    subst (λ (os : List Output). FineFrom (block_in k) os a.dispatched.now.most (g.E.Emit.room a.emit.now) (begun k c.in-State.state (cells_of a.own.now a.issued.now) a.occurrence.now.point.event)) (sym c.deref.ensures.value)
    (fine a.dispatched.now.block.now a.dispatched.now.ports.now a.own.now a.issued.now a.dispatched.now.condition a.occurrence.now.point.event a.occurrence.now.values.now a.dispatched.now.most _ c.requires.can k c.in-Chart.is c.in-State.state c.in-State.is)

pub returns-in-State-clause-ran : goal.returns-in-State-clause-ran
returns-in-State-clause-ran g c =
    let a = c.args in
    let k = c.in-Chart.chart in
    let ran = c.invoke-state in
    subst (λ (o : Option Effect). HasRun a.dispatched.now.block.now a.occurrence.now.point.event a.occurrence.now.values.now a.occurrence.now.clock (leaf_state (kind_of a.dispatched.now.block.now) a.own.now a.issued.now a.dispatched.now.condition) (leaf_state (kind_of a.dispatched.now.block.now) ran.new.own ran.new.issued (State ran.result.0)) ran.result.1 o (g.E.Emit.sent a.emit.now) (g.E.Emit.sent ran.new.emit))
    (sym c.requires.effect)
    (chart_ran a.dispatched.now.block.now a.dispatched.now.ports.now a.own.now a.issued.now a.dispatched.now.condition a.occurrence.now.point.event a.occurrence.now.values.now a.dispatched.now.most _ c.requires.can k c.in-Chart.is c.in-State.state c.in-State.is
    ran.new.own ran.new.issued a.occurrence.now.clock ran.result.0 ran.result.1 (g.E.Emit.sent a.emit.now) (g.E.Emit.sent ran.new.emit)
    (subst (λ (os : List Output). HasRested (block_in k) os (begun k c.in-State.state (cells_of a.own.now a.issued.now) a.occurrence.now.point.event) (named (states_in k) ran.result.0) (cells_of ran.new.own ran.new.issued) ran.result.1 (g.E.Emit.sent a.emit.now) (g.E.Emit.sent ran.new.emit))
    c.deref.ensures.value ran.ensures.rested))

pub returns-in-State-clause-condition : goal.returns-in-State-clause-condition
returns-in-State-clause-condition g c =
    let a = c.args in
    condition_after a.dispatched.now.block.now a.dispatched.now.ports.now a.own.now a.issued.now a.dispatched.now.condition a.occurrence.now.point.event a.occurrence.now.values.now a.dispatched.now.most _ c.requires.can c.in-Chart.chart c.in-Chart.is c.invoke-state.result.0 c.invoke-state.ensures.state

-- ---- services

pub unreachable-requires-in-State-condition : goal.unreachable-requires-in-State-condition
unreachable-requires-in-State-condition g c =
    let a = c.args in
    service_alone a.dispatched.now.block.now a.dispatched.now.ports.now a.own.now a.issued.now a.dispatched.now.condition a.occurrence.now.point.event a.occurrence.now.values.now a.dispatched.now.most _ c.requires.can c.in-Served.service c.in-Served.is c.in-State-condition.field-0 c.in-State-condition.is

pub serve-standing-requires-clause-ready : goal.serve-standing-requires-clause-ready
serve-standing-requires-clause-ready g c =
    let a = c.args in
    let s = c.in-Served.service in
    subst (λ (os : List Output). CanServe (service_of s) a.dispatched.now.ports.now os (forms_of a.own.now) (forms_of a.issued.now)) (sym c.deref-in-Service-condition.ensures.value)
    (can_serve a.dispatched.now.block.now a.dispatched.now.ports.now a.own.now a.issued.now a.dispatched.now.condition a.occurrence.now.point.event a.occurrence.now.values.now a.dispatched.now.most _ c.requires.can s c.in-Served.is)

pub serve-standing-requires-clause-message : goal.serve-standing-requires-clause-message
serve-standing-requires-clause-message g c =
    let a = c.args in
    can_receive a.dispatched.now.block.now a.dispatched.now.ports.now a.own.now a.issued.now a.dispatched.now.condition a.occurrence.now.point.event a.occurrence.now.values.now a.dispatched.now.most _ c.requires.can c.in-Served.service c.in-Served.is

pub serve-standing-requires-clause-room : goal.serve-standing-requires-clause-room
serve-standing-requires-clause-room g c =
    let a = c.args in
    let s = c.in-Served.service in
    subst (λ (os : List Output). length (sent_to os (can_emit (service_of s) (event_at (service_of s) a.occurrence.now.point.event))) ≤ g.E.Emit.room a.emit.now) (sym c.deref-in-Service-condition.ensures.value)
    (can_send a.dispatched.now.block.now a.dispatched.now.ports.now a.own.now a.issued.now a.dispatched.now.condition a.occurrence.now.point.event a.occurrence.now.values.now a.dispatched.now.most _ c.requires.can s c.in-Served.is)

pub serve-standing-requires-clause-sends : goal.serve-standing-requires-clause-sends
serve-standing-requires-clause-sends g c =
    let a = c.args in
    sends_fit a.dispatched.now.block.now a.dispatched.now.ports.now a.own.now a.issued.now a.dispatched.now.condition a.occurrence.now.point.event a.occurrence.now.values.now a.dispatched.now.most _ c.requires.can c.in-Served.service c.in-Served.is

pub returns-in-Service-condition-clause-ran : goal.returns-in-Service-condition-clause-ran
returns-in-Service-condition-clause-ran g c =
    let a = c.args in
    let s = c.in-Served.service in
    let now = c.in-Service-condition in
    let ran = c.serve-standing in
    service_ran a.dispatched.now.block.now a.dispatched.now.ports.now a.own.now a.issued.now a.dispatched.now.condition a.occurrence.now.point.event a.occurrence.now.values.now a.dispatched.now.most _ c.requires.can s c.in-Served.is now.standing now.is
    ran.new.own ran.new.issued a.occurrence.now.clock ran.result.0 ran.result.1 (g.E.Emit.sent a.emit.now) (g.E.Emit.sent ran.new.emit)
    (subst (λ (os : List Output). HasServed (service_of s) os a.occurrence.now.clock (event_at (service_of s) a.occurrence.now.point.event) a.occurrence.now.values.now (leaf_of (values_of a.own.now) (values_of a.issued.now) now.standing) (leaf_of (values_of ran.new.own) (values_of ran.new.issued) ran.result.0) (effect_of ran.result.1) (g.E.Emit.sent a.emit.now) (g.E.Emit.sent ran.new.emit))
    c.deref-in-Service-condition.ensures.value ran.ensures.served)

pub returns-in-Service-condition-clause-condition : goal.returns-in-Service-condition-clause-condition
returns-in-Service-condition-clause-condition g c =
    let a = c.args in
    service_after a.dispatched.now.block.now a.dispatched.now.ports.now a.own.now a.issued.now a.dispatched.now.condition a.occurrence.now.point.event a.occurrence.now.values.now a.dispatched.now.most _ c.requires.can c.in-Served.service c.in-Served.is c.serve-standing.result.0
