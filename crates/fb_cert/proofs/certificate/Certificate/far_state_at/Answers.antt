use Rattle.std.proofs.Common.{List, ℕ}
use Rattle.fb_model.specs.CertificateText.{far_row}
use Rattle.fb_cert.proofs.Places.{at_view}
use Rattle.fb_cert.proofs.certificate.Certificate.far_state_at.Goals as goal

pub returns-clause-book : goal.returns-clause-book
returns-clause-book c = rw (← c.self.view_is) (at_view (λ (p : (List ℕ) × ℕ). far_row p.0 p.1) c.self.inside.lists.far_states.entries c.args.index c.in_ok-path.path.now c.as_str.result.now c.in_ok-path.steps.now c.in_ok-path.ensures.entry c.as_str.ensures.value)
