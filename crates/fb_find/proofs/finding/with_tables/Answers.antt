use Rattle.std.proofs.lemmas.Result.{err_from_is_err_and}
use Rattle.std.proofs.Common.{◌≡◌, map}
use Rattle.fb_model.specs.Certificates.{all_leaves}
use Rattle.fb_cert.specs.Views.{certificate_of}
use Rattle.fb_check_rows.proofs.Loops.{ok_weaker}
use Rattle.fb_find_laws.specs.Finding.{IsMadeWith}
use Rattle.fb_model.specs.Finding.{IsFoundWith}
use Rattle.fb_find_laws.proofs.Laws.{made_with}
use Rattle.fb_find_ranges.specs.Found.{spelled}
use Rattle.fb_ranges.specs.Views.{spans_of}
use Rattle.fb_find.specs.Parts.{events_in, states_in}
use Rattle.fb_find.proofs.Given.{cycle_told, ready_is}
use Rattle.fb_find.proofs.finding.with_tables.Goals as goal

pub order-requires : goal.order-requires
order-requires c = (c.requires.tables.0, (c.in_ok-numbering.ensures c.requires.tables.0 c.requires.tables.1.given).numbered)

pub returns-in_err-order-clause-refused : goal.returns-in_err-order-clause-refused
returns-in_err-order-clause-refused c = λ s have.
    let p = err_from_is_err_and c.from_residual-in_err-order.result c.from_residual-in_err-order.ensures.1 in
    rw (p.1, p.2) (cycle_told (spelled (map spans_of c.args.tables.now) (all_leaves s.devices)) c.args.repeats s c.in_err-order.field-0.0 (c.in_err-order.ensures.cycle s (c.in_ok-numbering.ensures s have.given).numbered))

pub with_order-requires-clause-ready : goal.with_order-requires-clause-ready
with_order-requires-clause-ready c =
    let s = c.requires.tables.0 in
    let have = c.requires.tables.1 in
    let h = c.in_ok-numbering.ensures s have.given in
    (s, have, ready_is c.args.repeats c.args.flat.now.devices.items c.in_ok-numbering.numbering s c.in_ok-order.order.items c.as_slice.result.now h c.as_slice.ensures.value (c.in_ok-order.ensures.ordered s h.numbered))

pub returns-clause-found : goal.returns-clause-found
returns-clause-found c = λ s have.
    let n = c.in_ok-numbering.numbering in
    let fs = c.args.flat.now.devices.items in
    let ranges = spelled (map spans_of c.args.tables.now) (all_leaves s.devices) in
    let h = c.in_ok-numbering.ensures s have.given in
    ok_weaker (λ x. IsMadeWith (λ rs. rs ≡ ranges) c.args.repeats s (states_in n) (events_in n) n.channels.items (certificate_of x)) (λ x. IsFoundWith (λ rs. rs ≡ ranges) c.args.repeats s (certificate_of x))
    (λ x m. made_with (λ rs. rs ≡ ranges) c.args.repeats s (states_in n) (events_in n) n.channels.items (certificate_of x) h.numbered.rows m) c.with_order.result
    (c.with_order.ensures.made s have (ready_is c.args.repeats fs n s c.in_ok-order.order.items c.as_slice.result.now h c.as_slice.ensures.value (c.in_ok-order.ensures.ordered s h.numbered)))

pub returns-clause-refused : goal.returns-clause-refused
returns-clause-refused c = λ s have.
    let h = c.in_ok-numbering.ensures s have.given in
    c.with_order.ensures.refused s have (ready_is c.args.repeats c.args.flat.now.devices.items c.in_ok-numbering.numbering s c.in_ok-order.order.items c.as_slice.result.now h c.as_slice.ensures.value (c.in_ok-order.ensures.ordered s h.numbered))
