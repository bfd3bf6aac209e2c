use Rattle.std.proofs.Common.{◌≡◌, ◌∙◌, sym, ap, subst}
use Rattle.fb_types_services.specs.Views.{service_of}
use Rattle.fb_flat.specs.Leaves.{kind_of}
use Rattle.fb_cert.specs.Views.{certificate_of}
use Rattle.fb_check_rows.specs.Depths.{arrival_of, IsBegin}
use Rattle.fb_check_rows.proofs.Arriving.{begins}
use Rattle.fb_check_rows.proofs.Loops.{ok_weaker}
use Rattle.fb_check_rows.proofs.begin.begin_places.Goals as goal

pub returns-then-begins-clause-value : goal.returns-then-begins-clause-value
returns-then-begins-clause-value c =
    let service = service_of c.in-Served.service in
    ok_weaker _ (IsBegin c.args.certificate.now c.args.leaf.now)
    (λ n a. begins c.args.certificate.now c.args.leaf.now service n (ap kind_of c.in-Served.is) (sym c.begins.ensures ∙ c.if-begins.true) (subst (λ p. n ≡ arrival_of (certificate_of c.args.certificate.now) p service) c.as_str.ensures.value a))
    c.service_places.result c.service_places.ensures.value
