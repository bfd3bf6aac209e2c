use Rattle.std.proofs.Common.{List, ℕ}
use Rattle.fb_model.specs.CertificateText.{row_of}
use Rattle.fb_cert.specs.declared.certificate.Amount.{Amount}
use Rattle.fb_cert.proofs.Places.{at_view}
use Rattle.fb_cert.proofs.certificate.Certificate.charge_at.Goals as goal

pub returns-clause-book : goal.returns-clause-book
returns-clause-book c = rw (← c.self.view_is) (at_view (λ (p : (List ℕ) × Amount). row_of p.0 p.1.steps p.1.places) c.self.inside.lists.charges.entries c.args.index c.in_ok-path.path.now c.as_str.result.now c.in_ok-path.amount.now c.in_ok-path.ensures.entry c.as_str.ensures.value)
