use Rattle.std.proofs.lemmas.Result.{err_from_is_err_and}
use Rattle.std.proofs.Common.{◌≡◌, map}
use Rattle.fb_model.specs.Certificates.{all_leaves}
use Rattle.fb_find_ranges.specs.Found.{spelled}
use Rattle.fb_ranges.specs.Views.{spans_of}
use Rattle.fb_find.proofs.Given.{has_tables}
use Rattle.fb_find.proofs.finding.with_order.Goals as goal

pub with_numbers-requires-clause-ready : goal.with_numbers-requires-clause-ready
with_numbers-requires-clause-ready c =
    let s = c.requires.ready.0 in
    let have = c.requires.ready.1 in
    let ready = c.requires.ready.2 in
    let fs = c.args.flat.now.devices.items in
    let ranges = spelled (map spans_of c.args.tables.now) (all_leaves s.devices) in
    (s, ranges, ready, has_tables s fs ranges c.in_ok-certificate.certificate c.in-Ok.own.items c.as_slice.result.now have.given (c.in_ok-certificate.ensures.ranged s have) c.in-Ok.ensures c.as_slice.ensures.value)

pub returns-in-Ok-clause-made : goal.returns-in-Ok-clause-made
returns-in-Ok-clause-made c = λ s have ready.
    let fs = c.args.flat.now.devices.items in
    let ranges = spelled (map spans_of c.args.tables.now) (all_leaves s.devices) in
    let has = c.in_ok-certificate.ensures.ranged s have in
    c.with_numbers.ensures.made s ranges ready (has_tables s fs ranges c.in_ok-certificate.certificate c.in-Ok.own.items c.as_slice.result.now have.given has c.in-Ok.ensures c.as_slice.ensures.value) has

pub returns-in-Ok-clause-refused : goal.returns-in-Ok-clause-refused
returns-in-Ok-clause-refused c = λ s have ready.
    let fs = c.args.flat.now.devices.items in
    let ranges = spelled (map spans_of c.args.tables.now) (all_leaves s.devices) in
    let has = c.in_ok-certificate.ensures.ranged s have in
    c.with_numbers.ensures.refused s ranges ready (has_tables s fs ranges c.in_ok-certificate.certificate c.in-Ok.own.items c.as_slice.result.now have.given has c.in-Ok.ensures c.as_slice.ensures.value) has

pub returns-in_err-certificate-clause-refused : goal.returns-in_err-certificate-clause-refused
returns-in_err-certificate-clause-refused c = λ s have ready.
    let p = err_from_is_err_and c.from_residual.result c.from_residual.ensures.1 in
    rw (p.1, p.2) (c.in_err-certificate.ensures.refused c.args.repeats s have)
