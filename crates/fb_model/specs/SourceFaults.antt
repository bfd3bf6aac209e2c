-- What is at fault in declared types, resources, devices and whole sources, and where; with the event blocks that are declared beforehand.
use Rattle.std.specs.Prelude.{ℕ, suc, ◌+◌, ◌<◌, ◌≤◌, ◌≡◌, true, false, List, [], ◌∷◌, ◌++◌, map, None}
use Rattle.std.specs.List.{AllByRecursion, Contains}
use Rattle.fb_model.specs.Names.{is_in}
use Rattle.fb_model.specs.Declarations.{ChartTree, InstanceTree, NetworkTree, Chart, Network, BlockTree, ResourceTree, DeviceTree, SourceTree}
use Rattle.fb_model.specs.System.{Face, Body, Instances, Parameter, Resource, Device, System}
use Rattle.fb_model.specs.Typing.{service_names, most_instances}
use Rattle.fb_model.specs.BlockTyping.{Declared, IsFace}
use Rattle.fb_model.specs.NetworkTyping.{type_named, most_deep, most_resources, most_devices, IsMade, IsInstance, AreInstances, instance_count, inner_count, no_face, IsProper}
use Rattle.fb_faults.specs.declared.typing.TypeFault.{TypeFault}
use Rattle.fb_faults.specs.declared.typing.TypeFault.TheVariants.{OutOfMemory, UnknownName, DuplicateName, RecursiveComposite, Limit}
use Rattle.fb_model.specs.BlockFaults.{IsRepetition, IsExcess, IsFaceFault, IsBasicFault}
use Rattle.fb_model.specs.NetworkFaults.{Placed, placed_in, IsPlainFault, IsServedFault, IsNetworkFault}
use Rattle.fb_model.specs.Nesting.{Used, IsOf, Uses, Leads, LeadsToNoRing, Nests, ResourcesProvide, DevicesProvide}
use Rattle.fb_model.specs.NumberFaults.{IsNumberFault, IsChannelFault}
use Rattle.fb_model.specs.Wires.{resource_count, most_followed}
use Rattle.fb_model.specs.EventBlocks.{AreEventBlocks, Elaborates}

-- By these types:
module _ (bs : List BlockTree) where
  mutual
    -- what is at fault in a declared type
    pub data IsTypeFault : BlockTree → TypeFault → Type 0 where
      no_memory_for_type : {b : BlockTree} {f : TypeFault} → f ≡ OutOfMemory → IsTypeFault b f
      faulty_basic : {b : BlockTree} {f : TypeFault} {c : ChartTree} → b.body ≡ Chart c → IsBasicFault b c f → IsTypeFault b f
      faulty_interface : {b : BlockTree} {f : TypeFault} {n : NetworkTree} → b.body ≡ Network n → IsFaceFault b f → IsTypeFault b f
      faulty_part : {b : BlockTree} {f : TypeFault} {n : NetworkTree} {i : InstanceTree} → b.body ≡ Network n → Contains n.instances i → IsInstanceFault i f → IsTypeFault b f
      faulty_network : {b : BlockTree} {f : TypeFault} {n : NetworkTree} {d : ℕ} {ins outs : List Declared} {g : Face} {ps : List Placed}
          → b.body ≡ Network n → IsFace b ins outs g → AreInstances bs d n.instances (placed_in ps) → IsNetworkFault g n ps f → IsTypeFault b f
      -- it is inside itself, at the name of the type by which a ring closes
      ring : {b c : BlockTree} {f : TypeFault} {i : InstanceTree} → Uses bs b i c → Leads bs c b → f ≡ RecursiveComposite i.type.at → IsTypeFault b f

    -- what is at fault in an instance
    pub data IsInstanceFault : InstanceTree → TypeFault → Type 0 where
      no_memory_for_instance : {i : InstanceTree} {f : TypeFault} → f ≡ OutOfMemory → IsInstanceFault i f
      -- its type is none that there is, at the type's name
      unknown_type : {i : InstanceTree} {f : TypeFault} → is_in i.type.text service_names ≡ false → type_named bs i.type.text ≡ None → f ≡ UnknownName i.type.at → IsInstanceFault i f
      faulty_type : {i : InstanceTree} {f : TypeFault} {c : BlockTree} → IsOf bs i c → IsTypeFault c f → IsInstanceFault i f
      faulty_plain : {i : InstanceTree} {f : TypeFault} {c : BlockTree} {d : ℕ} {body : Body} → IsOf bs i c → IsMade bs d c body → IsPlainFault i body f → IsInstanceFault i f
      faulty_service : {i : InstanceTree} {f : TypeFault} → IsServedFault i f → IsInstanceFault i f

  -- composites nest too deep in a type, none of them inside itself, at its name
  pub record IsTooDeep (b : BlockTree) (f : TypeFault) : Type 0 where
    pub n : ℕ
    pub more : most_deep < n
    pub nests : Nests bs b n
    pub no_ring : LeadsToNoRing bs b
    pub fault_is : f ≡ Limit b.name.at

  -- what is at fault in a type of a source
  pub data IsBlockFault (b : BlockTree) (f : TypeFault) : Type 0 where
    -- it has the name of a service, at it
    named_as_service : is_in b.name.text service_names ≡ true → f ≡ DuplicateName b.name.at → IsBlockFault b f
    faulty_block : IsTypeFault b f → IsBlockFault b f
    too_deep : IsTooDeep b f → IsBlockFault b f

  -- what is at fault in the first of these types that is not well typed
  pub record IsFirstFault (blocks : List BlockTree) (f : TypeFault) : Type 0 where
    pub before : List BlockTree
    pub after : List BlockTree
    pub one : BlockTree
    pub parts : blocks ≡ before ++ one ∷ after
    pub proper : AllByRecursion (IsProper bs) before
    pub fault : IsBlockFault one f

  -- with this one a resource has more instances than as many, those inside composites counted, and without it not yet, at its name
  pub record IsCrowd (most : ℕ) (is : List InstanceTree) (f : TypeFault) : Type 0 where
    pub before : List InstanceTree
    pub after : List InstanceTree
    pub one : InstanceTree
    pub parts : is ≡ before ++ one ∷ after
    pub d : ℕ
    pub inner : Instances
    pub parameters : List Parameter
    pub body : Body
    pub earlier : AreInstances bs d before inner
    pub made : IsInstance bs d one parameters body
    pub fits : instance_count inner ≤ most
    pub more : most < instance_count inner + suc (inner_count body)
    pub fault_is : f ≡ Limit one.name.at

  -- what is at fault in a resource
  pub data IsResourceFault (r : ResourceTree) (f : TypeFault) : Type 0 where
    no_memory_for_resource : f ≡ OutOfMemory → IsResourceFault r f
    faulty_instance : {i : InstanceTree} → Contains r.network.instances i → IsInstanceFault i f → IsResourceFault r f
    -- composites nest too deep in an instance's type
    too_deep_inside : {i : InstanceTree} {c : BlockTree} → Contains r.network.instances i → IsOf bs i c → IsTooDeep c f → IsResourceFault r f
    too_many : IsCrowd most_instances r.network.instances f → IsResourceFault r f
    faulty_wires : {d : ℕ} {ps : List Placed} → AreInstances bs d r.network.instances (placed_in ps) → IsNetworkFault no_face r.network ps f → IsResourceFault r f

  -- what is at fault in a device
  pub data IsDeviceFault (d : DeviceTree) (f : TypeFault) : Type 0 where
    no_memory_for_device : f ≡ OutOfMemory → IsDeviceFault d f
    repeated_resource : IsRepetition [] (map (λ r. r.name) d.resources) f → IsDeviceFault d f
    excess_resource : IsExcess most_resources (map (λ r. r.name) d.resources) f → IsDeviceFault d f
    faulty_resource : {r : ResourceTree} → Contains d.resources r → IsResourceFault r f → IsDeviceFault d f
    faulty_numbers : {us : List Used} → ResourcesProvide bs d.resources us → IsNumberFault us f → IsDeviceFault d f

-- what is at fault in a source, with these event blocks
pub data IsSourceFault (library : List BlockTree) (source : SourceTree) (f : TypeFault) : Type 0 where
  no_memory_for_source : f ≡ OutOfMemory → IsSourceFault library source f
  repeated_type : IsRepetition [] (map (λ b. b.name) source.blocks) f → IsSourceFault library source f
  faulty_declaration : IsFirstFault (source.blocks ++ library) source.blocks f → IsSourceFault library source f
  repeated_device : IsRepetition [] (map (λ d. d.name) source.system.devices) f → IsSourceFault library source f
  excess_device : IsExcess most_devices (map (λ d. d.name) source.system.devices) f → IsSourceFault library source f
  -- in a device, where all declared types are well typed: composites nest too deep in none of them
  faulty_device : {d : DeviceTree} → AllByRecursion (IsProper (source.blocks ++ library)) source.blocks → Contains source.system.devices d → IsDeviceFault (source.blocks ++ library) d f → IsSourceFault library source f
  faulty_channels : {us : List Used} → DevicesProvide (source.blocks ++ library) source.system.devices us → IsChannelFault us f → IsSourceFault library source f

-- what is at fault with declarations of the event blocks
pub record IsRefused (source : SourceTree) (f : TypeFault) : Type 0 where
  pub library : List BlockTree
  pub beforehand : AreEventBlocks library
  pub fault : IsSourceFault library source f

-- ---- connections that are followed

-- in one of these resources more connections are followed than may be, and this is the offset of its name
pub data AnyCrowded : List ResourceTree → List Resource → ℕ → Type 0 where
  this_resource : {r : ResourceTree} {rs : List ResourceTree} {q : Resource} {qs : List Resource} → most_followed < resource_count q → AnyCrowded (r ∷ rs) (q ∷ qs) r.name.at
  later_resource : {r : ResourceTree} {rs : List ResourceTree} {q : Resource} {qs : List Resource} {at : ℕ} → AnyCrowded rs qs at → AnyCrowded (r ∷ rs) (q ∷ qs) at

-- in one of a device
pub data SomeCrowded : List DeviceTree → List Device → ℕ → Type 0 where
  this_device : {d : DeviceTree} {ds : List DeviceTree} {e : Device} {es : List Device} {at : ℕ} → AnyCrowded d.resources e.resources at → SomeCrowded (d ∷ ds) (e ∷ es) at
  later_device : {d : DeviceTree} {ds : List DeviceTree} {e : Device} {es : List Device} {at : ℕ} → SomeCrowded ds es at → SomeCrowded (d ∷ ds) (e ∷ es) at

-- in one of a source that is well typed
pub record IsCrowdedSource (source : SourceTree) (at : ℕ) : Type 0 where
  pub system : System
  pub typed : Elaborates source system
  pub crowded : SomeCrowded source.system.devices system.devices at
