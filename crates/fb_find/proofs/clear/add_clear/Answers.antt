use Rattle.std.proofs.Common.{ap, map, sym, subst}
use Rattle.std.proofs.lemmas.Result.{err_from_is_err_and}
use Rattle.fb_model.specs.Certificates.{all_leaves}
use Rattle.fb_cert.specs.Views.{Rows, rows_of}
use Rattle.fb_ranges.specs.Views.{spans_of}
use Rattle.fb_find_ranges.specs.Found.{spelled}
use Rattle.fb_model.specs.Finding.{IsNoBoundAt}
use Rattle.fb_find.proofs.Clearing.{apart_texts, has_ranges, known, told, upper_texts}
use Rattle.fb_find.proofs.clear.add_clear.Goals as goal

pub returns-in-Ok-clause-ranged : goal.returns-in-Ok-clause-ranged
returns-in-Ok-clause-ranged c = λ s have e.
    let fs = c.args.flat.now.devices.items in
    let given = have.given in
    let tables = map spans_of c.args.tables.now in
    let adds = c.in_ok-add_ranges.ensures s given.tables given.words (upper_texts fs s given) (apart_texts fs s given) (ap (λ (r : Rows). r.ranges) e) have.many in
    has_ranges fs s given tables have (rows_of c.args.certificate.now) (rows_of c.add_ranges.new.certificate) e adds (c.in-Ok.ensures.clears s given.tables (known fs s given))

pub returns-in-Err-clause-refused : goal.returns-in-Err-clause-refused
returns-in-Err-clause-refused c = λ repeats s have e.
    let fs = c.args.flat.now.devices.items in
    let given = have.given in
    let tables = map spans_of c.args.tables.now in
    let adds = c.in_ok-add_ranges.ensures s given.tables given.words (upper_texts fs s given) (apart_texts fs s given) (ap (λ (r : Rows). r.ranges) e) have.many in
    subst (IsNoBoundAt (spelled tables (all_leaves s.devices)) repeats s) (sym c.no_range.ensures) (told s (spelled tables (all_leaves s.devices)) repeats (rows_of c.add_ranges.new.certificate) c.in-Err.fault adds.ranges_are (c.in-Err.ensures.refused s given.tables (known fs s given)))

pub returns-in_err-add_ranges-clause-refused : goal.returns-in_err-add_ranges-clause-refused
returns-in_err-add_ranges-clause-refused c = λ repeats s have e.
    let p = err_from_is_err_and c.from_residual.result c.from_residual.ensures.1 in
    rw (p.1, p.2) tt
