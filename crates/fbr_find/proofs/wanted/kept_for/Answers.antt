use Rattle.fb_cert.specs.Views.{certificate_of, rows_of}
use Rattle.fb_types.specs.Views.{system_of}
use Rattle.fb_find.specs.Bounds.{RowsStand}
use Rattle.fb_find_search.specs.Searching.{IsFoundSomehow, IsNoBoundKeeping}
use Rattle.fbr_find.specs.Bounding.{IsUnboundKeeping}
use Rattle.fbr_find.proofs.Found.{keeping_is, bounded_as, both_ok}
use Rattle.fbr_find.proofs.wanted.kept_for.Goals as goal

pub returns : goal.returns
returns c =
    let r = c.args.repeats in
    let s = system_of c.args.typed.now in
    let given = rows_of c.args.given in
    bounded_as (λ x. IsFoundSomehow r s (certificate_of x) × RowsStand given (rows_of x)) (IsNoBoundKeeping given r s) (IsUnboundKeeping given r s) c.find_keeping.result c.bounded.result c.bounded.ensures (keeping_is given r s)
    (both_ok (λ x. IsFoundSomehow r s (certificate_of x)) (λ x. RowsStand given (rows_of x)) c.find_keeping.result c.find_keeping.ensures.found c.find_keeping.ensures.stand) c.find_keeping.ensures.refused
