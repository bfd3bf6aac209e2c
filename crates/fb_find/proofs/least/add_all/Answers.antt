use Rattle.std.proofs.lemmas.Result.{err_from_is_err_and}
use Rattle.fb_cert.specs.Views.{rows_of}
use Rattle.fb_find.proofs.Adding.{can_add, read_added}
use Rattle.fb_find.proofs.Making.{far_past, fresh_now, made, none_yet, past, places_past, steps_past}
use Rattle.fb_find.proofs.least.add_all.Goals as goal

pub returns-clause-made : goal.returns-clause-made
returns-clause-made c = λ s ranges ready t has.
    let fs = c.args.ordered.now.flat.now.devices.items in
    let n = c.args.ordered.now.numbering.now in
    let order = c.args.ordered.now.order.now in
    let a = c.in_ok-steps.ensures.least s ranges c.args.repeats ready t in
    let b = c.in_ok-places.ensures.least s ranges c.args.repeats ready in
    let steps = c.in_ok-steps.steps.items in
    let places = c.in_ok-places.places.items in
    let start = rows_of c.args.certificate.now in
    let now = rows_of c.add_numbers.new.certificate in
    let first = read_added n steps places c.as_slice.result.now c.as_slice-2.result.now start now c.as_slice.ensures.value c.as_slice-2.ensures.value (can_add c.args.repeats fs n order s ready ranges steps places start a b has) c.in_ok-add_numbers.ensures in
    let deep = c.in_ok-add_depths.ensures.rows s.devices ready.numbering.numbered.given.tables (fresh_now c.args.repeats fs n order s ready ranges steps places start a b has now first) in
    let none = none_yet c.args.repeats fs n order s ready ranges steps places start a b has now (rows_of c.add_depths.new.certificate) first deep in
    made c.args.repeats fs n order s ready ranges steps places start a b has now (rows_of c.add_depths.new.certificate) (rows_of c.add_network.new.certificate) first deep (c.in_ok-add_network.ensures.added s ranges ready t none) c.stands_in_text.ensures

pub returns-in_err-steps-clause-refused : goal.returns-in_err-steps-clause-refused
returns-in_err-steps-clause-refused c = λ s ranges ready t has.
    let p = err_from_is_err_and c.from_residual.result c.from_residual.ensures.1 in
    rw (p.1, p.2) (steps_past c.args.repeats c.args.ordered.now.flat.now.devices.items c.args.ordered.now.numbering.now c.args.ordered.now.order.now s ready ranges (rows_of c.args.certificate.now) has c.in_err-steps.field-0.0 (c.in_err-steps.ensures.refused s ranges c.args.repeats ready t))

pub returns-in_err-places-clause-refused : goal.returns-in_err-places-clause-refused
returns-in_err-places-clause-refused c = λ s ranges ready t has.
    let p = err_from_is_err_and c.from_residual-in_err-places.result c.from_residual-in_err-places.ensures.1 in
    rw (p.1, p.2) (places_past c.args.repeats c.args.ordered.now.flat.now.devices.items c.args.ordered.now.numbering.now c.args.ordered.now.order.now s ready ranges (rows_of c.args.certificate.now) has c.in_err-places.field-0.0 (c.in_err-places.ensures.refused s ranges c.args.repeats ready))

pub returns-in_err-add_depths-clause-refused : goal.returns-in_err-add_depths-clause-refused
returns-in_err-add_depths-clause-refused c = λ s ranges ready t has.
    let fs = c.args.ordered.now.flat.now.devices.items in
    let n = c.args.ordered.now.numbering.now in
    let order = c.args.ordered.now.order.now in
    let a = c.in_ok-steps.ensures.least s ranges c.args.repeats ready t in
    let b = c.in_ok-places.ensures.least s ranges c.args.repeats ready in
    let steps = c.in_ok-steps.steps.items in
    let places = c.in_ok-places.places.items in
    let start = rows_of c.args.certificate.now in
    let now = rows_of c.add_numbers.new.certificate in
    let first = read_added n steps places c.as_slice.result.now c.as_slice-2.result.now start now c.as_slice.ensures.value c.as_slice-2.ensures.value (can_add c.args.repeats fs n order s ready ranges steps places start a b has) c.in_ok-add_numbers.ensures in
    let p = err_from_is_err_and c.from_residual-in_err-add_depths.result c.from_residual-in_err-add_depths.ensures.1 in
    rw (p.1, p.2)
    (past c.args.repeats fs n order s ready ranges steps places start a b has now c.in_err-add_depths.field-0.0 first
    (c.in_err-add_depths.ensures.refused s.devices ready.numbering.numbered.given.tables (fresh_now c.args.repeats fs n order s ready ranges steps places start a b has now first)))

pub returns-in_err-add_network-clause-refused : goal.returns-in_err-add_network-clause-refused
returns-in_err-add_network-clause-refused c = λ s ranges ready t has.
    let p = err_from_is_err_and c.from_residual-in_err-add_network.result c.from_residual-in_err-add_network.ensures.1 in
    rw (p.1, p.2) (far_past c.args.repeats c.args.ordered.now.flat.now.devices.items c.args.ordered.now.numbering.now c.args.ordered.now.order.now s ready ranges (rows_of c.args.certificate.now) has c.in_err-add_network.field-0.0 (c.in_err-add_network.ensures.refused s ranges ready t))
