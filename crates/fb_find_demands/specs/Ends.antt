-- The channels of leaves, and where they end.
-- This project's profile.
use Rattle.std.specs.Prelude.{ℕ, ◌==◌, Bool, false, List, [], ◌∷◌, Option, None, Some, string_bytes, if◌then◌else◌}
use Rattle.fb_model.specs.Names.{Name, Path}
use Rattle.fb_model.specs.CertificateText.{names_in}
use Rattle.fb_model.specs.Wires as wires
use Rattle.fb_model.specs.Certificates.{channel_in, with_number}
use Rattle.fb_flat.specs.declared.flat.Leaf.{Leaf}
use Rattle.fb_flat.specs.Leaves.{kind_of}

-- a leaf is a PUBLISH or SUBSCRIBE of the channel
abbrev pub names_channel : ℕ → Option ℕ → Bool
names_channel c None = false
names_channel c (Some n) = n == c

-- the path of the first PUBLISH or SUBSCRIBE of a channel, that of no text where there is none
abbrev pub end_of : List wires.Leaf → ℕ → Path
end_of [] c = names_in []
end_of (leaf ∷ rest) c = if names_channel c (channel_in leaf.kind) then leaf.path else end_of rest c

-- ---- in the tables

abbrev pub with_channel : Option ℕ → List ℕ → List ℕ
with_channel None cs = cs
with_channel (Some c) cs = with_number c cs

-- the channels that the leaves of tables name, upwards, each once
abbrev pub channels_in : List Leaf → List ℕ
channels_in [] = []
channels_in (l ∷ ls) = with_channel (channel_in (kind_of l.body)) (channels_in ls)

abbrev pub end_in : List Leaf → ℕ → Name
end_in [] c = []
end_in (l ∷ ls) c = if names_channel c (channel_in (kind_of l.body)) then string_bytes l.path else end_in ls c
