use Rattle.fb_cert.specs.Views.{certificate_of}
use Rattle.fb_types.specs.Views.{system_of}
use Rattle.fb_model.specs.Finding.{IsNoBound}
use Rattle.fb_find_search.specs.Searching.{IsFoundSomehow, IsSearched}
use Rattle.fbr_find.specs.Bounding.{IsUnbound}
use Rattle.fbr_find.proofs.Found.{unbound_is, bounded_as, both_ok}
use Rattle.fbr_find.proofs.wanted.searched_for.Goals as goal

pub returns : goal.returns
returns c =
    let r = c.args.repeats in
    let s = system_of c.args.typed.now in
    bounded_as (λ x. IsFoundSomehow r s (certificate_of x) × IsSearched r s (certificate_of x)) (IsNoBound r s) (IsUnbound r s) c.search.result c.bounded.result c.bounded.ensures (unbound_is r s)
    (both_ok (λ x. IsFoundSomehow r s (certificate_of x)) (λ x. IsSearched r s (certificate_of x)) c.search.result c.search.ensures.found c.search.ensures.own) c.search.ensures.refused
