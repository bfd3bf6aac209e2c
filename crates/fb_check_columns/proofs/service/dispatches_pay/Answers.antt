use Rattle.std.proofs.Common.{◌≡◌, true, map, subst, Bor}
use Rattle.std.proofs.lemmas.Result.{err_from_is_err_and}
use Rattle.fb_model.specs.Names.{Name, is_in}
use Rattle.fb_types_services.specs.Views.{service_of}
use Rattle.fb_check_columns.specs.Paying.{DispatchPays}
use Rattle.fb_check_columns.proofs.Lists.{in_images}
use Rattle.fb_check_columns.proofs.Each.{more_images, weight_weaker}
use Rattle.fb_check_columns.proofs.service.dispatches_pay.Goals as goal

pub returns-in_err-dispatch_pays : goal.returns-in_err-dispatch_pays
returns-in_err-dispatch_pays c =
    let p = err_from_is_err_and c.from_residual.result c.from_residual.ensures.1 in
    let pays = DispatchPays c.args.column c.args.certificate.now c.args.leaf.now.path.now (service_of c.args.leaf.now.service.now) c.args.leaf.now.outputs.now in
    let name = λ (e : Bor Name). e.now in
    let events = map name c.args.events.now in
    rw (p.1, p.2) (weight_weaker c.args.leaf.now.path.now _ _ c.in_err-dispatch_pays.field-0.0
    (λ y q. (subst (λ (z : Name). is_in z events ≡ true) q.0 (in_images name c.args.events.now c.loop-event.event-index _ c.loop-event-test.true), subst (λ (z : Name). pays z → ⊥) q.0 q.1)) c.in_err-dispatch_pays.ensures)

pub loop-event-preserved : goal.loop-event-preserved
loop-event-preserved c =
    let pays = DispatchPays c.args.column c.args.certificate.now c.args.leaf.now.path.now (service_of c.args.leaf.now.service.now) c.args.leaf.now.outputs.now in
    more_images pays (λ (e : Bor Name). e.now) c.args.events.now c.loop-event.event-index _ c.loop-event-test.true c.loop-event.invariant c.in_ok-dispatch_pays.ensures
