-- When queues are deep enough for what comes from outside: for each arrival, and for all BEGIN of a resource, which arrive at once.
-- This project's profile.
use Rattle.std.specs.Prelude.{ℕ, ◌≡◌, ◌≤◌, ◌↔◌, ◌⊎◌, Bool, List, [], ◌∷◌, string_bytes}
use Rattle.std.specs.List.{Any, AllByRecursion}
use Rattle.fb_model.specs.Names.{Name, at_place}
use Rattle.fb_model.specs.System.{Service, Device}
use Rattle.fb_model.specs.Services.{arrivals}
use Rattle.fb_model.specs.Wires as wires
use Rattle.fb_model.specs.Wires.{leaves}
use Rattle.fb_model.specs.Certificates as certs
use Rattle.fb_model.specs.Certificates.{ArrivalsFit, begin_places, kind_arrivals, is_restart}
use Rattle.fb_model.specs.CertificateText.{names_in, place_of}
use Rattle.fb_cert.specs.declared.certificate.Certificate.{Certificate}
use Rattle.fb_cert.specs.Views.{certificate_of}
use Rattle.fb_flat.specs.declared.flat.Leaf.{Leaf}
use Rattle.fb_flat.specs.declared.flat.FlatResource.{FlatResource}
use Rattle.fb_flat.specs.declared.flat.FlatDevice.{FlatDevice}
use Rattle.fb_flat.specs.Sites.{dotted}
use Rattle.fb_flat.specs.Tables.{IsLeaf, AreLeaves}
use Rattle.fb_faults.specs.declared.shallow.Shallow.{Shallow}
use Rattle.fb_faults.specs.declared.shallow.Shallow.TheVariants.{OutOfMemory, Depth}
use Rattle.fb_model.specs.Finding.{begin_of, begins_of}

-- ---- a system

-- the queues of a device are deep enough
pub record IsDeep (cert : certs.Certificate) (d : Device) : Type 0 where
  pub arrivals : AllByRecursion (ArrivalsFit cert d) (leaves d)
  pub begins : (q : ℕ) → begin_places cert (leaves d) q ≤ certs.depth_of cert d q

-- ---- leaves of tables

-- the places at a row of a path
abbrev pub places_at : certs.Certificate → Name → ℕ
places_at cert row = certs.amount (λ r. r.places) cert.weights (place_of row)

-- the places of the arrival, 0 where there is none
abbrev pub at_arrival : certs.Certificate → Name → List Name → ℕ
at_arrival cert path [] = 0
at_arrival cert path (e ∷ es) = places_at cert (dotted path e)

abbrev pub arrival_of : certs.Certificate → Name → Service → ℕ
arrival_of cert path service = at_arrival cert path (arrivals service)

abbrev pub is_begun : Service → Bool
is_begun service = is_restart (wires.Serviced service)

-- the depth of a resource, 0 where it has no row
abbrev pub depth_of : Certificate → FlatResource → ℕ
depth_of cert r = certs.depth_at (certificate_of cert).depths (names_in (string_bytes r.path))

-- each arrival of a leaf takes at most so many places
abbrev pub Arrives : Certificate → ℕ → wires.Leaf → Type 0
Arrives cert most leaf = AllByRecursion (λ e. (certs.places_of (certificate_of cert)).weight (at_place leaf.path e) ≤ most) (kind_arrivals leaf.kind)

-- the same of a leaf of the tables, whichever it is in the book
abbrev pub LeafArrives : Certificate → ℕ → Leaf → Type 0
LeafArrives cert most l = (leaf : wires.Leaf) → IsLeaf l leaf → Arrives cert most leaf

-- the places of a leaf's arrivals are at most a number just where this one is
abbrev pub IsMost : Certificate → Leaf → ℕ → Type 0
IsMost cert l n = (leaf : wires.Leaf) → IsLeaf l leaf → (most : ℕ) → (n ≤ most) ↔ Arrives cert most leaf

abbrev pub IsBegin : Certificate → Leaf → ℕ → Type 0
IsBegin cert l n = (leaf : wires.Leaf) → IsLeaf l leaf → begin_of (certificate_of cert) leaf ≡ n

-- ---- resources and devices of tables

abbrev pub ResourceArrives : Certificate → FlatResource → Type 0
ResourceArrives cert r = AllByRecursion (LeafArrives cert (depth_of cert r)) r.leaves.items

abbrev pub ResourceBegins : Certificate → FlatResource → Type 0
ResourceBegins cert r = (all : List wires.Leaf) → AreLeaves r.leaves.items all → begins_of (certificate_of cert) all ≤ depth_of cert r

abbrev pub ResourceFits : Certificate → FlatResource → Type 0
ResourceFits cert r = ResourceArrives cert r × ResourceBegins cert r

abbrev pub DeviceFits : Certificate → FlatDevice → Type 0
DeviceFits cert d = AllByRecursion (ResourceFits cert) d.resources.items

-- an arrival of a resource takes more places than its depth
abbrev pub ArrivalFails : Certificate → FlatResource → Type 0
ArrivalFails cert r = Any (λ l. (leaf : wires.Leaf) → IsLeaf l leaf → Arrives cert (depth_of cert r) leaf → ⊥) r.leaves.items

-- all its BEGIN do
abbrev pub BeginFails : Certificate → FlatResource → Type 0
BeginFails cert r = (all : List wires.Leaf) → AreLeaves r.leaves.items all → begins_of (certificate_of cert) all ≤ depth_of cert r → ⊥

-- one of the two
abbrev pub IsDepthFault : Certificate → FlatResource → Shallow → Type 0
IsDepthFault cert r OutOfMemory = Unit {0}
IsDepthFault cert r (Depth path) = (string_bytes path ≡ string_bytes r.path) × (ArrivalFails cert r ⊎ BeginFails cert r)

-- want of memory
abbrev pub IsMemory : Shallow → Type 0
IsMemory OutOfMemory = Unit {0}
IsMemory other = ⊥
