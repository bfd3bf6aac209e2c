use Rattle.fb_cert.specs.Views.{certificate_of}
use Rattle.fb_types.specs.Views.{system_of}
use Rattle.fb_model.specs.Finding.{IsNoBound}
use Rattle.fb_model.specs.Finding.{IsFound}
use Rattle.fbr_find.specs.Bounding.{IsUnbound}
use Rattle.fbr_find.proofs.Found.{unbound_is, bounded_as}
use Rattle.fbr_find.proofs.wanted.least_for.Goals as goal

pub returns : goal.returns
returns c =
    let s = system_of c.args.typed.now in
    bounded_as (λ x. IsFound c.args.repeats s (certificate_of x)) (IsNoBound c.args.repeats s) (IsUnbound c.args.repeats s) c.find.result c.bounded.result c.bounded.ensures (unbound_is c.args.repeats s) c.find.ensures.found c.find.ensures.refused
