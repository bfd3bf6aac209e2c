use Rattle.std.proofs.Common.{map}
use Rattle.std.proofs.lemmas.Result.{err_from_is_err_and}
use Rattle.fb_check_columns.specs.Reckoning.{own_of}
use Rattle.fb_check_columns.proofs.Owing.{state_owes, source_owes, all_pay}
use Rattle.fb_check_columns.proofs.chart.rows_pay.Goals as goal

pub returns-in_err-states_pay : goal.returns-in_err-states_pay
returns-in_err-states_pay c =
    λ ns h.
    let k = c.args.rows.now.block.now in
    let p = err_from_is_err_and c.from_residual-in_err-states_pay.result c.from_residual-in_err-states_pay.ensures.1 in
    rw (p.1, p.2) (state_owes c.args.rows.now.column c.args.rows.now.certificate.now c.args.rows.now.path.now k ns c.in_err-states_pay.field-0.0 (c.in_err-states_pay.ensures ns (rw c.as_slice-costs.ensures.value (c.in_ok-own.ensures.values ns h))))

pub returns-in_err-sources_pay : goal.returns-in_err-sources_pay
returns-in_err-sources_pay c =
    λ ns h.
    let k = c.args.rows.now.block.now in
    let p = err_from_is_err_and c.from_residual-in_err-sources_pay.result c.from_residual-in_err-sources_pay.ensures.1 in
    rw (p.1, p.2) (source_owes c.args.rows.now.column c.args.rows.now.certificate.now c.args.rows.now.path.now k ns c.in_err-sources_pay.field-0.0
    (rw c.as_slice-transitions.ensures.value at (c.in_err-sources_pay.ensures (map (own_of k ns) k.states.entries) (rw c.as_slice-costs.ensures.value (c.in_ok-own.ensures.values ns h)))))

pub returns : goal.returns
returns c =
    λ ns h.
    let k = c.args.rows.now.block.now in
    let next = rw c.as_slice-transitions.ensures.value at c.in_ok-next.ensures.value in
    all_pay c.args.rows.now.column c.args.rows.now.certificate.now c.args.rows.now.path.now k ns c.events_pay.result (c.in_ok-states_pay.ensures ns (rw c.as_slice-costs.ensures.value (c.in_ok-own.ensures.values ns h)))
    (rw c.as_slice-transitions.ensures.value at (c.in_ok-sources_pay.ensures (map (own_of k ns) k.states.entries) (rw c.as_slice-costs.ensures.value (c.in_ok-own.ensures.values ns h))))
    (rw next at c.in_ok-inputs_pay.ensures) (rw c.as_slice-transitions.ensures.value at c.events_pay.ensures)
