-- What channels ask of the leaves of the tables.
-- This project's profile.
use Rattle.std.specs.Prelude.{ℕ, List, map, replicate, string_bytes}
use Rattle.std.specs.List.{flat_map}
use Rattle.fb_model.specs.Names.{at_place}
use Rattle.fb_model.specs.CertificateText.{names_in}
use Rattle.fb_model.specs.Services.{arrive}
use Rattle.fb_model.specs.Certificates.{admissions}
use Rattle.fb_model.specs.Demands.{Node, event, channel, Demand}
use Rattle.fb_flat.specs.declared.flat.Leaf.{Leaf}
use Rattle.fb_flat.specs.Leaves.{kind_of}

-- the arrival of a leaf, as often as it may admit a datagram of the channel
abbrev pub heard_in : ℕ → ℕ → Leaf → List Node
heard_in repeats c leaf = replicate (admissions repeats c (kind_of leaf.body)) (event (at_place (names_in (string_bytes leaf.path)) arrive))

-- the number of a channel pays for the arrivals of a datagram
abbrev pub of_channel : ℕ → List Leaf → ℕ → Demand
of_channel repeats leaves c = record { node = channel c; constant = 0; terms = flat_map (heard_in repeats c) leaves }

abbrev pub channels_ask : ℕ → List Leaf → List ℕ → List Demand
channels_ask repeats leaves channels = map (of_channel repeats leaves) channels
