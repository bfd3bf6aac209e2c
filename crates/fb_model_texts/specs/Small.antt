-- Rows that say no more than a text of certificates can.
use Rattle.std.specs.Prelude.{◌≤◌}
use Rattle.std.specs.List.{AllByRecursion}
use Rattle.fb_model.specs.Certificates.{Certificate, Row, FarRow, ChannelRow}
use Rattle.fb_model.specs.CertificateText.{most_steps, most_places}

abbrev pub IsSmall : Row → Type 0
IsSmall r = (r.steps ≤ most_steps) × (r.places ≤ most_places)

abbrev pub IsSmallFar : FarRow → Type 0
IsSmallFar r = r.steps ≤ most_steps

abbrev pub IsSmallChannel : ChannelRow → Type 0
IsSmallChannel r = r.steps ≤ most_steps

-- no row of states, events and channels says more than a text of certificates can
pub record AreSmall (cert : Certificate) : Type 0 where
  pub charges : AllByRecursion IsSmall cert.charges
  pub weights : AllByRecursion IsSmall cert.weights
  pub fars : AllByRecursion IsSmallFar cert.fars
  pub far_states : AllByRecursion IsSmallFar cert.far_states
  pub channels : AllByRecursion IsSmallChannel cert.channels
