use Rattle.std.proofs.lemmas.Result.{err_from_is_err_and}
use Rattle.fb_check_columns.specs.Paying.{EventPays, event_named}
use Rattle.fb_check_columns.proofs.Each.{one_weight}
use Rattle.fb_check_columns.proofs.chart.events_pay.Goals as goal

pub returns-in_err-event_pays : goal.returns-in_err-event_pays
returns-in_err-event_pays c =
    let p = err_from_is_err_and c.from_residual.result c.from_residual.ensures.1 in
    let pays = EventPays c.args.rows.now.column c.args.rows.now.certificate.now c.args.rows.now.path.now in
    rw (p.1, p.2) (one_weight c.args.rows.now.path.now event_named pays c.args.transitions.now c.loop-transition.transition-index c.transition-item.result c.in_err-event_pays.field-0.0 c.loop-transition-test.true c.transition-item.is c.in_err-event_pays.ensures)
