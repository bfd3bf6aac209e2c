use Rattle.std.proofs.Common.{List, ℕ}
use Rattle.fb_model.specs.CertificateText.{depth_row}
use Rattle.fb_cert.proofs.Places.{at_view}
use Rattle.fb_cert.proofs.certificate.Certificate.depth_at.Goals as goal

pub returns-clause-book : goal.returns-clause-book
returns-clause-book c = rw (← c.self.view_is) (at_view (λ (p : (List ℕ) × ℕ). depth_row p.0 p.1) c.self.inside.lists.depths.entries c.args.index c.in_ok-path.path.now c.as_str.result.now c.in_ok-path.depth.now c.in_ok-path.ensures.entry c.as_str.ensures.value)
