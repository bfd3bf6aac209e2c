-- Rows that a text can say: this project's profile.
use Rattle.std.specs.Prelude.{◌≡◌, ℕ, ◌≤◌, int_le, Bool, true, List, [], ◌∷◌, ◌++◌, false, IfSome}
use Rattle.std.specs.Int.RustNames.{FitsSigned}
use mir.Syntax.{w64}
use Rattle.fb_model.specs.Spelling.{upper}
use Rattle.fb_model.specs.Spans.{Span, span}
use Rattle.fb_model.specs.CertificateText.{TextRow, repeats, range, charge, weight, depth, far, far_state, channel, IsDotted, most_steps, most_places, most_repeats, most_channel}
use Rattle.fb_cert.specs.declared.certificate.Amount.{Amount}
use Rattle.fb_cert.specs.Rows.{Table, has_path, has_number, Rows, amount}

-- names in upper case, joined by dots
abbrev pub IsUpperPath : List ℕ → Type 0
IsUpperPath path = IsDotted path × (upper path ≡ path)

-- two numbers of LINT in order
pub record IsRange (s : Span) : Type 0 where
  pub low_fits : FitsSigned w64 s.low
  pub high_fits : FitsSigned w64 s.high
  pub ordered : int_le s.low s.high ≡ true

-- steps and places within their bounds
pub record IsAmount (a : Amount) : Type 0 where
  pub steps_fit : a.steps ≤ most_steps
  pub places_fit : a.places ≤ most_places

-- a number within its bounds
pub record IsWithin (low high n : ℕ) : Type 0 where
  pub some : low ≤ n
  pub fits : n ≤ high

-- the steps of a datagram of a channel
abbrev pub IsChannel : ℕ × ℕ → Type 0
IsChannel r = IsWithin 0 most_channel r.0 × IsWithin 0 most_steps r.1

-- a text can say the row
abbrev pub IsSayable : TextRow → Type 0
IsSayable (repeats n) = IsWithin 1 most_repeats n
IsSayable (range path low high) = IsUpperPath path × IsRange (span low high)
IsSayable (charge path steps places) = IsUpperPath path × IsAmount (amount steps places)
IsSayable (weight path steps places) = IsUpperPath path × IsAmount (amount steps places)
IsSayable (depth path n) = IsUpperPath path × IsWithin 1 most_places n
IsSayable (far path n) = IsUpperPath path × IsWithin 0 most_steps n
IsSayable (far_state path n) = IsUpperPath path × IsWithin 0 most_steps n
IsSayable (channel number n) = IsChannel (number, n)

-- each row is such, and stands in none before it
abbrev pub AreRows : {R : Type 0} → (R → Type 0) → (R → List R → Bool) → List R → List R → Type 0
AreRows Such stands before [] = Unit {0}
AreRows Such stands before (r ∷ rs) = Such r × (stands r before ≡ false) × AreRows Such stands (before ++ r ∷ []) rs

-- a row has a path and says what is such
abbrev pub SaysAtPath : {V : Type 0} → (V → Type 0) → (List ℕ) × V → Type 0
SaysAtPath Such r = IsUpperPath r.0 × Such r.1

-- each row has a path of its own and says what is such
abbrev pub ArePathRows : {V : Type 0} → (V → Type 0) → Table V → Type 0
ArePathRows Such rows = AreRows (SaysAtPath Such) (λ r before. has_path r.0 before) [] rows

-- a text can say each row, and no path and no number stands twice in its kind
pub record AreSayable (rows : Rows) : Type 0 where
  pub repeats_are : IfSome rows.repeats (IsWithin 1 most_repeats)
  pub ranges_are : ArePathRows IsRange rows.ranges
  pub charges_are : ArePathRows IsAmount rows.charges
  pub weights_are : ArePathRows IsAmount rows.weights
  pub depths_are : ArePathRows (IsWithin 1 most_places) rows.depths
  pub fars_are : ArePathRows (IsWithin 0 most_steps) rows.fars
  pub far_states_are : ArePathRows (IsWithin 0 most_steps) rows.far_states
  pub channels_are : AreRows IsChannel (λ r before. has_number r.0 before) [] rows.channels
