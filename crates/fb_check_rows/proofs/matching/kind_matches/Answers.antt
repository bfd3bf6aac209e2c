use Rattle.std.proofs.lemmas.Result.{err_from_is_err_and}
use Rattle.fb_types_blocks.specs.Views.{names_of}
use Rattle.fb_types_blocks.proofs.Lists.{on_ok}
use Rattle.fb_cert.specs.Views.{rows_of}
use Rattle.fb_check_rows.specs.Texts.{paths_of, texts_of}
use Rattle.fb_check_rows.specs.Faults.{IsDifference}
use Rattle.fb_check_rows.proofs.Matches.{err_weaker}
use Rattle.fb_check_rows.proofs.Members.{other_names, both_ways, gathered_same}
use Rattle.fb_check_rows.proofs.matching.kind_matches.Goals as goal

pub returns-in_err-none_missing-clause-refused : goal.returns-in_err-none_missing-clause-refused
returns-in_err-none_missing-clause-refused c =
    let ts = texts_of c.args.kind c.args.flat.now.devices.items in
    let ps = paths_of c.args.given (rows_of c.args.certificate.now) in
    let p = err_from_is_err_and c.from_residual-in_err-none_missing.result c.from_residual-in_err-none_missing.ensures.1 in
    rw (p.1, p.2) (other_names (names_of c.in_ok-rows.rows) ts ps c.in_err-none_missing.field-0.0 (gathered_same (names_of c.in_ok-rows.rows) ts c.in_ok-rows.ensures.rows) c.in_err-none_missing.ensures.refused)

pub returns-clause-same : goal.returns-clause-same
returns-clause-same c =
    let ts = texts_of c.args.kind c.args.flat.now.devices.items in
    let ps = paths_of c.args.given (rows_of c.args.certificate.now) in
    on_ok (λ back. both_ways (names_of c.in_ok-rows.rows) ps ts c.in_ok-none_missing.ensures.there back (gathered_same (names_of c.in_ok-rows.rows) ts c.in_ok-rows.ensures.rows)) c.none_unknown.result c.none_unknown.ensures.there

pub returns-clause-refused : goal.returns-clause-refused
returns-clause-refused c =
    let ts = texts_of c.args.kind c.args.flat.now.devices.items in
    let ps = paths_of c.args.given (rows_of c.args.certificate.now) in
    err_weaker (IsDifference (names_of c.in_ok-rows.rows) ps) (IsDifference ts ps) (λ f h. other_names (names_of c.in_ok-rows.rows) ts ps f (gathered_same (names_of c.in_ok-rows.rows) ts c.in_ok-rows.ensures.rows) h) c.none_unknown.result c.none_unknown.ensures.refused
