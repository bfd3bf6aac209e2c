-- Networks with indexes: the positions of names, the connections of ends, and the networks inside.
use Rattle.std.specs.Prelude.{ℕ, suc, ◌≡◌, ◌+◌, List, [], ◌∷◌, map}
use Rattle.std.specs.declared.string.String.{String}
use Rattle.std.specs.declared.alloc.Global.{Global}
use Rattle.indexmap.specs.IndexMap.{IndexMap}
use Rattle.fb_types_networks.specs.declared.typed.Network.{Network, fold-Network}
use Rattle.fb_types_networks.specs.declared.typed.Instance.{Instance, fold-Instance}
use Rattle.fb_types_networks.specs.declared.typed.Body.{Body, out-Body}
use Rattle.fb_types_networks.specs.declared.typed.Body.TheOpen.{Body-F, Network-F}
use Rattle.fb_types_networks.specs.Views.{connection_of}
use Rattle.fb_flat.specs.Bundled.{Bundles, IsBundled, source_of, target_of}
use Rattle.fb_flat.specs.Placed.{AreNames}
use Rattle.fb_flat.specs.declared.lookup.Inside.{Inside}
use Rattle.fb_flat.specs.declared.lookup.Inside.TheVariants as i

-- inside a leaf is nothing, and inside a composite its network
abbrev pub IsInside : Body-F Body Instance Network → Inside → Type 0
IsInside (Body-F.Basic k) i.Leaf = Unit {0}
IsInside (Body-F.Basic k) (i.Composite g v) = ⊥
IsInside (Body-F.Served s) i.Leaf = Unit {0}
IsInside (Body-F.Served s) (i.Composite g v) = ⊥
IsInside (Body-F.Composite f n) i.Leaf = ⊥
IsInside (Body-F.Composite f n) (i.Composite g v) = (g.now ≡ f.value) × (v ≡ n.value)

-- the same of many, one by one
abbrev pub AreInside : List Instance → List Inside → Type 0
AreInside [] [] = Unit {0}
AreInside [] (x ∷ xs) = ⊥
AreInside (i ∷ is) [] = ⊥
AreInside (i ∷ is) (x ∷ xs) = IsInside (out-Body i.body) x × AreInside is xs

-- the indexes are those of a network
pub record IsIndexed {S T U : Type 0} (n : Network-F Body Instance Network) (positions : IndexMap (String Global) ℕ S) (events : Bundles T) (values : Bundles U) (inside : List Inside) : Type 0 where
  pub positions_are : AreNames n.instances.items positions
  pub events_are : IsBundled source_of (map connection_of n.events.items) events
  pub values_are : IsBundled target_of (map connection_of n.values.items) values
  pub inside_are : AreInside n.instances.items inside

-- ---- how large a network is: one for each composite in it

abbrev pub sum : List ℕ → ℕ
sum [] = 0
sum (n ∷ ns) = n + sum ns

abbrev pub body_size : Body-F ℕ ℕ ℕ → ℕ
body_size (Body-F.Basic k) = 0
body_size (Body-F.Served s) = 0
body_size (Body-F.Composite f n) = suc n.value

abbrev pub network_size : Network-F ℕ ℕ ℕ → ℕ
network_size n = sum n.instances.items

abbrev pub sized : Instance → ℕ
sized = fold-Instance ℕ ℕ ℕ body_size (λ i. i.body) network_size

abbrev pub size_of : Network → ℕ
size_of = fold-Network ℕ ℕ ℕ body_size (λ i. i.body) network_size
