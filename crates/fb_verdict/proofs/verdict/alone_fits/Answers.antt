use Rattle.std.proofs.Common.{◌∙◌, subst, sym}
use Rattle.std.proofs.lemmas.Result.{err_from_is_err_and}
use Rattle.fb_cert.specs.Views.{certificate_of}
use Rattle.fb_types.specs.Views.{system_of}
use Rattle.fb_verified.proofs.Written.{words, tables_are}
use Rattle.fb_verdict.proofs.Composed.{plain, known, alone_by}
use Rattle.fb_verdict.proofs.Denied.{of_rows, of_unclear, of_steps, of_places, of_depth}
use Rattle.fb_verdict.proofs.verdict.alone_fits.Goals as goal

pub returns-in_err-rows_match-clause-refused : goal.returns-in_err-rows_match-clause-refused
returns-in_err-rows_match-clause-refused c = λ typed w e.
    let p = err_from_is_err_and c.from_residual.result c.from_residual.ensures.1 in
    let s = system_of typed in
    let a = tables_are s c.args.flat.now.devices.items w e in
    rw (p.1, p.2) (of_rows typed (certificate_of c.args.certificate.now) c.in_err-rows_match.field-0.0 (c.in_err-rows_match.ensures.refused s a (words s w)))

pub returns-in_err-rows_clear-clause-refused : goal.returns-in_err-rows_clear-clause-refused
returns-in_err-rows_clear-clause-refused c = λ typed w e.
    let p = err_from_is_err_and c.from_residual-in_err-rows_clear.result c.from_residual-in_err-rows_clear.ensures.1 in
    let s = system_of typed in
    let a = tables_are s c.args.flat.now.devices.items w e in
    rw (p.1, p.2) (of_unclear typed (certificate_of c.args.certificate.now) c.in_err-rows_clear.field-0.0 (c.in_err-rows_clear.ensures.refused s a (plain s w)))

pub returns-in_err-column_pays-clause-refused : goal.returns-in_err-column_pays-clause-refused
returns-in_err-column_pays-clause-refused c = λ typed w e.
    let p = err_from_is_err_and c.from_residual-in_err-column_pays.result c.from_residual-in_err-column_pays.ensures.1 in
    let s = system_of typed in
    let a = tables_are s c.args.flat.now.devices.items w e in
    rw (p.1, p.2) (of_steps typed (certificate_of c.args.certificate.now) c.in_err-column_pays.field-0.0 (c.in_err-column_pays.ensures.refused s a (known s (certificate_of c.args.certificate.now).ranges w (c.in_ok-rows_clear.ensures.clears s a (plain s w)))))

pub returns-in_err-column_pays-2-clause-refused : goal.returns-in_err-column_pays-2-clause-refused
returns-in_err-column_pays-2-clause-refused c = λ typed w e.
    let p = err_from_is_err_and c.from_residual-in_err-column_pays-2.result c.from_residual-in_err-column_pays-2.ensures.1 in
    let s = system_of typed in
    let a = tables_are s c.args.flat.now.devices.items w e in
    rw (p.1, p.2) (of_places typed (certificate_of c.args.certificate.now) c.in_err-column_pays-2.field-0.0 (c.in_err-column_pays-2.ensures.refused s a (known s (certificate_of c.args.certificate.now).ranges w (c.in_ok-rows_clear.ensures.clears s a (plain s w)))))

pub returns-in_err-depths_fit-clause-refused : goal.returns-in_err-depths_fit-clause-refused
returns-in_err-depths_fit-clause-refused c = λ typed w e.
    let p = err_from_is_err_and c.from_residual-in_err-depths_fit.result c.from_residual-in_err-depths_fit.ensures.1 in
    let s = system_of typed in
    let a = tables_are s c.args.flat.now.devices.items w e in
    rw (p.1, p.2) (of_depth typed (certificate_of c.args.certificate.now) c.in_err-depths_fit.field-0.0 (c.in_err-depths_fit.ensures.refused s a))

pub returns-clause-fits : goal.returns-clause-fits
returns-clause-fits c = λ s w e few.
    let a = tables_are s c.args.flat.now.devices.items w e in
    let rows = c.in_ok-rows_match.ensures.rows s a (words s w) in
    let clear = c.in_ok-rows_clear.ensures.clears s a (plain s w) in
    let k = known s (certificate_of c.args.certificate.now).ranges w clear in
    alone_by s c.args.certificate.now few rows clear (c.in_ok-column_pays.ensures.pays s a k) (c.in_ok-column_pays-2.ensures.pays s a k) (c.in_ok-depths_fit.ensures.fits s a)
