-- The channels that the leaves of tables name, against the rows CHANNEL of a certificate.
-- This project's profile.
use Rattle.std.specs.Prelude.{◌≡◌, ℕ, ◌==◌, Bool, true, false, List, [], ◌∷◌, Option, None, Some}
use Rattle.std.specs.List.{list_any, flat_map}
use Rattle.fb_model.specs.Certificates.{channel_in, with_repeats}
use Rattle.fb_flat.specs.declared.flat.Leaf.{Leaf}
use Rattle.fb_flat.specs.declared.flat.FlatResource.{FlatResource}
use Rattle.fb_flat.specs.declared.flat.FlatDevice.{FlatDevice}
use Rattle.fb_flat.specs.Leaves.{kind_of}
use Rattle.fb_cert.specs.Views.{Rows, has_number}
use Rattle.fb_faults.specs.declared.row.RowFault.{RowFault}
use Rattle.fb_faults.specs.declared.row.RowFault.TheVariants.{OutOfMemory, Unknown, Missing, UnknownChannel, MissingChannel}

-- a number is one of these
abbrev pub is_one : ℕ → List ℕ → Bool
is_one c ns = list_any (λ n. c == n) ns

-- ---- in the tables

abbrev pub at_most_one : Option ℕ → List ℕ
at_most_one None = []
at_most_one (Some c) = c ∷ []

-- the channel of a leaf, if it is a PUBLISH or SUBSCRIBE
abbrev pub leaf_channels : Leaf → List ℕ
leaf_channels leaf = at_most_one (channel_in (kind_of leaf.body))

abbrev pub resource_channels : FlatResource → List ℕ
resource_channels resource = flat_map leaf_channels resource.leaves.items

abbrev pub device_channels : FlatDevice → List ℕ
device_channels device = flat_map resource_channels device.resources.items

-- the channel of each PUBLISH and SUBSCRIBE
abbrev pub channels_named : List FlatDevice → List ℕ
channels_named devices = flat_map device_channels devices

-- ---- against a certificate

-- a channel has a row
abbrev pub HasChannel : Rows → ℕ → Type 0
HasChannel rows c = has_number c rows.channels ≡ true

-- a row is of one of these channels
abbrev pub IsNamed : List ℕ → ℕ × ℕ → Type 0
IsNamed numbers r = is_one r.0 numbers ≡ true

-- a channel of these that has no row
abbrev pub MissesChannel : List ℕ → Rows → RowFault → Type 0
MissesChannel numbers rows (MissingChannel c) = (has_number c rows.channels ≡ false) × (is_one c numbers ≡ true)
MissesChannel numbers rows _ = ⊥

-- the channel of a row that is none of these
abbrev pub KnowsNot : List ℕ → Rows → RowFault → Type 0
KnowsNot numbers rows (UnknownChannel c) = (has_number c rows.channels ≡ true) × (is_one c numbers ≡ false)
KnowsNot numbers rows _ = ⊥

-- the channels that must have rows
abbrev pub channels_due : Option ℕ → List FlatDevice → List ℕ
channels_due repeats devices = with_repeats repeats (channels_named devices)

-- a certificate has rows of just these channels
abbrev pub HaveSameChannels : List FlatDevice → Rows → Type 0
HaveSameChannels devices rows = (c : ℕ) → has_number c rows.channels ≡ is_one c (channels_due rows.repeats devices)

-- want of memory, or a channel that has a row and must not, or must and has none
abbrev pub IsOtherChannel : List FlatDevice → Rows → RowFault → Type 0
IsOtherChannel devices rows OutOfMemory = Unit {0}
IsOtherChannel devices rows (Unknown path) = ⊥
IsOtherChannel devices rows (Missing path) = ⊥
IsOtherChannel devices rows (UnknownChannel c) = (has_number c rows.channels ≡ true) × (is_one c (channels_due rows.repeats devices) ≡ false)
IsOtherChannel devices rows (MissingChannel c) = (has_number c rows.channels ≡ false) × (is_one c (channels_due rows.repeats devices) ≡ true)
