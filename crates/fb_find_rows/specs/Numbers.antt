-- Rows with the numbers of both columns, and rows with those of the network.
use Rattle.std.specs.Prelude.{ℕ, ◌≡◌, ◌+◌, ◌≤◌, ◌==◌, true, List, [], ◌∷◌, slice_index}
use Rattle.std.specs.List.{All, IsDistinct}
use Rattle.fb_model.specs.Names.{Name}
use Rattle.fb_model.specs.CertificateText.{most_steps, most_places}
use Rattle.fb_cert.specs.declared.certificate.Amount.{Amount}
use Rattle.fb_cert.specs.Views.{Table, Rows, amount}
use Rattle.fb_cert.specs.Adding.{is_upper_path}

-- the rows of texts, from number k on; 0 where there is no number
abbrev pub amounts_from : ℕ → List Name → List ℕ → List ℕ → Table Amount
amounts_from k [] steps places = []
amounts_from k (t ∷ ts) steps places = (t, amount (slice_index steps k) (slice_index places k)) ∷ amounts_from (k + 1) ts steps places

abbrev pub amounts : List Name → List ℕ → List ℕ → Table Amount
amounts texts steps places = amounts_from 0 texts steps places

-- the texts are paths in upper case, and the numbers are within the bounds of rows
pub record CanBeSaid (texts : List Name) (steps places : List ℕ) : Type 0 where
  pub paths : All (λ t. is_upper_path t ≡ true) texts
  pub few_steps : All (λ n. n ≤ most_steps) steps
  pub few_places : All (λ n. n ≤ most_places) places

abbrev pub with_charges : Table Amount → Rows → Rows
with_charges charges rows = record rows { charges = charges }

abbrev pub with_weights : Table Amount → Rows → Rows
with_weights weights rows = record rows { weights = weights }

-- ---- the network

-- the rows of texts or of channels, each with one number, from number k on; 0 where there is no number
abbrev pub counts_from : {K : Type 0} → ℕ → List K → List ℕ → List (K × ℕ)
counts_from k [] steps = []
counts_from k (x ∷ xs) steps = (x, slice_index steps k) ∷ counts_from (k + 1) xs steps

abbrev pub counts : {K : Type 0} → List K → List ℕ → List (K × ℕ)
counts xs steps = counts_from 0 xs steps

-- the texts are paths in upper case, and the numbers are within the bounds of rows
pub record CanBeCounted (texts : List Name) (steps : List ℕ) : Type 0 where
  pub paths : All (λ t. is_upper_path t ≡ true) texts
  pub few_steps : All (λ n. n ≤ most_steps) steps

-- no two channels are the same, and the numbers are within the bounds of rows
pub record ChannelsCanBeCounted (channels steps : List ℕ) : Type 0 where
  pub apart : IsDistinct (λ a b. a == b) channels
  pub few_steps : All (λ n. n ≤ most_steps) steps

abbrev pub with_fars : Table ℕ → Rows → Rows
with_fars fars rows = record rows { fars = fars }

abbrev pub with_far_states : Table ℕ → Rows → Rows
with_far_states far_states rows = record rows { far_states = far_states }

abbrev pub with_channels : List (ℕ × ℕ) → Rows → Rows
with_channels channels rows = record rows { channels = channels }
