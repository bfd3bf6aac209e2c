-- Composites inside composites: which type uses which, how deep they nest, and the services in them.
-- IEC 61499-1 edition 2, 5.3 (composite types), this project's profile and its limits.
use Rattle.std.specs.Prelude.{ℕ, suc, ◌≡◌, false, List, [], ◌∷◌, ◌++◌, max, Some}
use Rattle.fb_model.specs.System.{Service, Body, Basic, Served, Composite, Instances, nothing, instance}
use Rattle.std.specs.List.{Contains}
use Rattle.fb_model.specs.Names.{is_in}
use Rattle.fb_model.specs.Declarations.{ChartTree, InstanceTree, NetworkTree, Chart, Network, BlockTree, ResourceTree, DeviceTree}
use Rattle.fb_model.specs.Typing.{service_names}
use Rattle.fb_model.specs.NetworkTyping.{type_named, IsService}

-- a service, and the offset of its instance's name
abbrev pub Used : Type 0
Used = ℕ × Service

-- how deep composites nest in a body
abbrev mutual
  pub deep : Body → ℕ
  deep (Basic block) = 0
  deep (Served service) = 0
  deep (Composite face inner events values) = suc (deepest inner)

  pub deepest : Instances → ℕ
  deepest nothing = 0
  deepest (instance name parameters body rest) = max (deep body) (deepest rest)

-- By these types:
module _ (bs : List BlockTree) where
  -- an instance of a declared type
  pub record IsOf (i : InstanceTree) (c : BlockTree) : Type 0 where
    pub declared : is_in i.type.text service_names ≡ false
    pub named : type_named bs i.type.text ≡ Some c

  -- a composite has an instance of a declared type
  pub record Uses (b : BlockTree) (i : InstanceTree) (c : BlockTree) : Type 0 where
    pub network : NetworkTree
    pub composite : b.body ≡ Network network
    pub among : Contains network.instances i
    pub of_type : IsOf i c

  -- a type leads to another one, use by use, and to itself
  pub data Leads (b : BlockTree) : BlockTree → Type 0 where
    itself : Leads b b
    further : {c d : BlockTree} {i : InstanceTree} → Leads b c → Uses c i d → Leads b d

  -- a type leads to none that is inside itself
  abbrev pub LeadsToNoRing : BlockTree → Type 0
  LeadsToNoRing b = (c d : BlockTree) (i : InstanceTree) → Leads b c → Uses c i d → Leads d c → ⊥

  -- so many composites nest in a type, it among them, or more
  pub data Nests : BlockTree → ℕ → Type 0 where
    no_composite : {b : BlockTree} → Nests b 0
    innermost : {b : BlockTree} {n : NetworkTree} → b.body ≡ Network n → Nests b 1
    outside : {b c : BlockTree} {i : InstanceTree} {n : ℕ} → Uses b i c → Nests c n → Nests b (suc n)

  mutual
    -- the services in a type with the offsets of their instances' names, depth first in text order
    pub data Provides : BlockTree → List Used → Type 0 where
      by_basic : {b : BlockTree} {c : ChartTree} → b.body ≡ Chart c → Provides b []
      by_composite : {b : BlockTree} {n : NetworkTree} {us : List Used} → b.body ≡ Network n → AllProvide n.instances us → Provides b us

    -- of an instance
    pub data InstanceProvides : InstanceTree → List Used → Type 0 where
      by_type : {i : InstanceTree} {c : BlockTree} {us : List Used} → IsOf i c → Provides c us → InstanceProvides i us
      by_service : {i : InstanceTree} {s : Service} → IsService i s → InstanceProvides i ((i.name.at, s) ∷ [])

    -- of instances
    pub data AllProvide : List InstanceTree → List Used → Type 0 where
      by_none : AllProvide [] []
      by_each : {i : InstanceTree} {is : List InstanceTree} {us vs : List Used} → InstanceProvides i us → AllProvide is vs → AllProvide (i ∷ is) (us ++ vs)

  -- of resources, and of devices
  pub data ResourcesProvide : List ResourceTree → List Used → Type 0 where
    by_no_resource : ResourcesProvide [] []
    by_each_resource : {r : ResourceTree} {rs : List ResourceTree} {us vs : List Used} → AllProvide r.network.instances us → ResourcesProvide rs vs → ResourcesProvide (r ∷ rs) (us ++ vs)

  pub data DevicesProvide : List DeviceTree → List Used → Type 0 where
    by_no_device : DevicesProvide [] []
    by_each_device : {d : DeviceTree} {ds : List DeviceTree} {us vs : List Used} → ResourcesProvide d.resources us → DevicesProvide ds vs → DevicesProvide (d ∷ ds) (us ++ vs)
