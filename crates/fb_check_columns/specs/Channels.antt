-- What the datagrams of channels cost at the leaves of the tables.
use Rattle.std.specs.Prelude.{◌≡◌, ◌==◌, ◌<◌, ◌≤◌, ◌*◌, ℕ, List, [], ◌∷◌, string_bytes, if◌then◌else◌}
use Rattle.std.specs.List.{sum_by, flat_map}
use Rattle.fb_model.specs.Names.{Name}
use Rattle.fb_model.specs.System.{Service}
use Rattle.fb_model.specs.Services.{arrive}
use Rattle.fb_model.specs.Wires.{Kind, Serviced}
use Rattle.fb_model.specs.Certificates.{admitted, far_of}
use Rattle.fb_cert.specs.declared.certificate.Certificate.{Certificate}
use Rattle.fb_cert.specs.Views.{certificate_of}
use Rattle.fb_flat.specs.declared.flat.Leaf.{Leaf}
use Rattle.fb_flat.specs.declared.flat.FlatDevice.{FlatDevice}
use Rattle.fb_flat.specs.Leaves.{kind_of}
use Rattle.fb_check_ranges.specs.Places.{leaves_in}
use Rattle.fb_check_columns.specs.declared.channel.Heard.{Heard}
use Rattle.fb_check_columns.specs.declared.column.Column.TheVariants.{Far}
use Rattle.fb_faults.specs.declared.shortfall.Shortfall.{Shortfall}
use Rattle.fb_faults.specs.declared.shortfall.Shortfall.TheVariants.{OutOfMemory, Charge, Weight, Channel}
use Rattle.fb_check_columns.specs.Reckoning.{weight_of}
use Rattle.fb_check_columns.specs.Sums.{IsSum}

-- a channel, and the steps that one of its datagrams may cost at one SUBSCRIBE
pub record Cost : Type 0 where
  pub channel : ℕ
  pub steps : ℕ

abbrev pub cost : ℕ → ℕ → Cost
cost channel steps = record { channel = channel; steps = steps }

-- what a leaf of this path hears, where each datagram is delivered at most r times to a device
abbrev pub heard_by : Certificate → ℕ → Name → Kind → List Cost
heard_by cert r path (Serviced (Service.Subscribe channel types)) = cost channel.number (admitted r channel * weight_of Far cert path arrive) ∷ []
heard_by cert r path kind = []

abbrev pub heard_at : Certificate → ℕ → Leaf → List Cost
heard_at cert r l = heard_by cert r (string_bytes l.path) (kind_of l.body)

-- what all leaves of devices hear, in order
abbrev pub heard_under : Certificate → ℕ → List FlatDevice → List Cost
heard_under cert r ds = flat_map (λ (d : FlatDevice). flat_map (heard_at cert r) (leaves_in d.resources.items)) ds

-- what a channel is charged with
abbrev pub cost_of : ℕ → Cost → ℕ
cost_of c x = if x.channel == c then x.steps else 0

-- what a datagram of a channel may cost at all its SUBSCRIBE
abbrev pub cost_in : ℕ → List Cost → ℕ
cost_in c xs = sum_by (cost_of c) xs

-- what was found is this, one by one
abbrev pub AreCosts : List Heard → List Cost → Type 0
AreCosts [] [] = Unit {0}
AreCosts (h ∷ hs) (x ∷ xs) = ((h.channel ≡ x.channel) × IsSum h.cost x.steps) × AreCosts hs xs
AreCosts [] (x ∷ xs) = ⊥
AreCosts (h ∷ hs) [] = ⊥

-- the row of a channel pays for what a datagram may cost
abbrev pub ChannelPays : Certificate → List Cost → ℕ → Type 0
ChannelPays cert xs c = cost_in c xs ≤ (far_of (certificate_of cert)).sending c

-- the row of the channel that is named does not
abbrev pub IsOwingChannel : Certificate → List Cost → Shortfall → Type 0
IsOwingChannel cert xs OutOfMemory = Unit {0}
IsOwingChannel cert xs (Charge row) = ⊥
IsOwingChannel cert xs (Weight row) = ⊥
IsOwingChannel cert xs (Channel c) = (far_of (certificate_of cert)).sending c < cost_in c xs
