use Rattle.std.proofs.Common.{◌≡◌, ap, subst}
use Rattle.fb_types_services.specs.Views.{service_of}
use Rattle.fb_flat.specs.Leaves.{kind_of}
use Rattle.fb_cert.specs.Views.{certificate_of}
use Rattle.fb_check_rows.specs.Depths.{arrival_of, IsMost}
use Rattle.fb_check_rows.proofs.Arriving.{served}
use Rattle.fb_check_rows.proofs.Loops.{ok_weaker}
use Rattle.fb_check_rows.proofs.resource.arrival_places.Goals as goal

pub returns-in-Served-clause-value : goal.returns-in-Served-clause-value
returns-in-Served-clause-value c =
    ok_weaker _ (IsMost c.args.certificate.now c.args.leaf.now)
    (λ n a. served c.args.certificate.now c.args.leaf.now (service_of c.in-Served.service) n (ap kind_of c.in-Served.is) (subst (λ p. n ≡ arrival_of (certificate_of c.args.certificate.now) p (service_of c.in-Served.service)) c.as_str.ensures.value a))
    c.service_places.result c.service_places.ensures.value
