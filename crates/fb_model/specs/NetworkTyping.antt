-- When networks are well typed, and what they elaborate to: services, instances, connections, composites, resources, devices and systems.
-- IEC 61499-1 edition 2, 5.3 (composite types), 6.1 (service interfaces) and 7 (configuration), this project's profile and its limits.
use Rattle.std.specs.Prelude.{ℕ, suc, ◌+◌, ◌≡◌, ◌≤◌, ℤ, pos, Bool, true, false, not, List, [], ◌∷◌, ◌++◌, map, length, Option, None, Some, codes, if◌then◌else◌}
use Rattle.std.specs.List.{filter, list_any, AllByRecursion}
use Rattle.std.specs.Str.{bytes_eq}
use Rattle.fb_words.specs.declared.elem_type.ElemType.{ElemType}
use Rattle.fb_words.specs.declared.format.Format.{Format}
use Rattle.fb_words.specs.declared.format.Format.TheVariants.{First, Second}
use Rattle.fb_model.specs.Names.{Name, is_in}
use Rattle.fb_model.specs.Values.{One}
use Rattle.fb_model.specs.Productions.{Word}
use Rattle.fb_model.specs.Trees.{ParameterTree, PortTree, ConnectionTree}
use Rattle.fb_model.specs.Declarations.{ChartTree, InstanceTree, NetworkTree, Chart, Network, BlockTree, ResourceTree, DeviceTree, SourceTree}
use Rattle.fb_model.specs.TextTyping.{widens}
use Rattle.fb_model.specs.System.{Variable, Channel, Service, Input, Output, Publish, Subscribe, Delay, Cycle, Restart, End, Connection, Parameter, Face, Body, Basic, Served, Composite, Instances, nothing, instance, Resource, Device, System}
use Rattle.fb_model.specs.Services.{service_inputs, service_outputs}
use Rattle.fb_model.specs.Typing.{AreDistinct, AreNewNumbers, service_names, IsWhole, IsId, names_of, event_inputs_of, event_outputs_of, body_named, most_instances}
use Rattle.fb_model.specs.BlockTyping.{Declared, IsGiven, IsFace, face_names, IsBasic}
use Rattle.fb_model.specs.Wires.{inputs_of, is_end}

-- ---- limits

abbrev pub most_devices : ℕ
most_devices = 16

abbrev pub most_resources : ℕ
most_resources = 16

-- how deep composites may nest
abbrev pub most_deep : ℕ
most_deep = 16

-- the value types of a service
abbrev pub most_types : ℕ
most_types = 16

-- ---- parameters

-- the first variable of a name
abbrev pub variable_named : List Variable → Name → Option Variable
variable_named [] x = None
variable_named (v ∷ vs) x = if bytes_eq x v.name then Some v else variable_named vs x

-- parameters give values to data inputs, none of which has one before
pub data AreParameters (vs : List Variable) : List Name → List ParameterTree → List Parameter → Type 0 where
  no_parameter : {before : List Name} → AreParameters vs before [] []
  a_parameter : {before : List Name} {p : ParameterTree} {ps : List ParameterTree} {v : Variable} {n : ℤ} {qs : List Parameter}
      → variable_named vs p.name.text ≡ Some v → is_in p.name.text before ≡ false → IsGiven v.type p.value n → AreParameters vs (before ++ p.name.text ∷ []) ps qs
      → AreParameters vs before (p ∷ ps) (record { name = p.name.text; value = One n } ∷ qs)

-- ---- services

-- the value types in square brackets, none where these are absent
abbrev pub value_types : Option (List ElemType) → List ElemType
value_types None = []
value_types (Some types) = types

-- the parameters of a name, and those of no such name
abbrev pub having : Name → List ParameterTree → List ParameterTree
having x ps = filter (λ p. bytes_eq p.name.text x) ps

abbrev pub lacking : List Name → List ParameterTree → List ParameterTree
lacking xs ps = filter (λ p. not (is_in p.name.text xs)) ps

abbrev pub id : Name
id = codes "ID"

abbrev pub format : Name
format = codes "FORMAT"

abbrev pub format_number : Format → ℕ
format_number First = 1
format_number Second = 2

-- the wire format, which may be given once, as 1 or 2; it is 1 where nothing is said
pub data IsFormat : List ParameterTree → Format → Type 0 where
  unsaid : IsFormat [] First
  said : {p : ParameterTree} {f : Format} → IsWhole p.value.value (pos (format_number f)) → IsFormat (p ∷ []) f

-- the parameters that are no data inputs
abbrev pub reserved : Service → List Name
reserved (Input number types) = id ∷ []
reserved (Output number types) = id ∷ []
reserved (Publish channel types) = id ∷ format ∷ []
reserved (Subscribe channel types) = id ∷ format ∷ []
reserved Delay = []
reserved Cycle = []
reserved Restart = []

-- the service of an instance, by the name of its type, its value types, and its number, or its channel with the format
pub data IsService (i : InstanceTree) : Service → Type 0 where
  an_input : {n : ℕ} → i.type.text ≡ codes "INPUT" → length (value_types i.types) ≤ most_types → IsId (having id i.parameters) n → IsService i (Input n (value_types i.types))
  an_output : {n : ℕ} → i.type.text ≡ codes "OUTPUT" → length (value_types i.types) ≤ most_types → IsId (having id i.parameters) n → IsService i (Output n (value_types i.types))
  a_publisher : {c : Channel} → i.type.text ≡ codes "PUBLISH" → length (value_types i.types) ≤ most_types → IsId (having id i.parameters) c.number → IsFormat (having format i.parameters) c.format → IsService i (Publish c (value_types i.types))
  a_subscriber : {c : Channel} → i.type.text ≡ codes "SUBSCRIBE" → length (value_types i.types) ≤ most_types → IsId (having id i.parameters) c.number → IsFormat (having format i.parameters) c.format → IsService i (Subscribe c (value_types i.types))
  a_delay : i.type.text ≡ codes "E_DELAY" → i.types ≡ None → IsService i Delay
  a_cycle : i.type.text ≡ codes "E_CYCLE" → i.types ≡ None → IsService i Cycle
  a_restart : i.type.text ≡ codes "E_RESTART" → i.types ≡ None → IsService i Restart

-- a service with the values of its data inputs
pub data IsServed (i : InstanceTree) (s : Service) (qs : List Parameter) : Type 0 where
  a_service : IsService i s → AreParameters (service_inputs s) [] (lacking (reserved s) i.parameters) qs → IsServed i s qs

-- ---- connections

abbrev pub outputs_of : Body → List Variable
outputs_of (Basic block) = block.outputs
outputs_of (Served service) = service_outputs service
outputs_of (Composite face inner events values) = face.outputs

-- an end of an event connection: an own port, or one of those that an instance has
pub data IsEnd (own : List Name) (ports : Body → List Name) (inner : Instances) : PortTree → End → Type 0 where
  own_port : {w : Word} → is_in w.text own ≡ true → IsEnd own ports inner (record { first = w; second = None }) (record { instance = None; port = w.text })
  port_of : {w x : Word} {body : Body} → body_named inner w.text ≡ Some body → is_in x.text (ports body) ≡ true
      → IsEnd own ports inner (record { first = w; second = Some x }) (record { instance = Some w.text; port = x.text })

-- from an own port to an own port
abbrev pub passes : End → End → Bool
passes s t = elim s.instance [ None ↦ elim t.instance [ None ↦ true | Some i ↦ false ] | Some i ↦ false ]

-- from what an instance emits or what the composite gets, to what an instance takes or what the composite emits
pub record IsEventConnection (f : Face) (inner : Instances) (c : ConnectionTree) (d : Connection) : Type 0 where
  pub source : IsEnd (names_of f.event_inputs) event_outputs_of inner c.source d.source
  pub target : IsEnd (names_of f.event_outputs) event_inputs_of inner c.target d.target
  pub stays : passes d.source d.target ≡ false

pub data AreEventConnections (f : Face) (inner : Instances) : List ConnectionTree → List Connection → Type 0 where
  no_event : AreEventConnections f inner [] []
  an_event : {c : ConnectionTree} {cs : List ConnectionTree} {d : Connection} {ds : List Connection} → IsEventConnection f inner c d → AreEventConnections f inner cs ds → AreEventConnections f inner (c ∷ cs) (d ∷ ds)

-- an end of a data connection, with its type
pub data IsValueEnd (own : List Variable) (ports : Body → List Variable) (inner : Instances) : PortTree → End → ElemType → Type 0 where
  own_value : {w : Word} {v : Variable} → variable_named own w.text ≡ Some v → IsValueEnd own ports inner (record { first = w; second = None }) (record { instance = None; port = w.text }) v.type
  value_at : {w x : Word} {body : Body} {v : Variable} → body_named inner w.text ≡ Some body → variable_named (ports body) x.text ≡ Some v
      → IsValueEnd own ports inner (record { first = w; second = Some x }) (record { instance = Some w.text; port = x.text }) v.type

-- the target has the type of the source, or one that it widens to
pub record IsValueConnection (f : Face) (inner : Instances) (c : ConnectionTree) (d : Connection) : Type 0 where
  pub given : ElemType
  pub taken : ElemType
  pub source : IsValueEnd f.inputs outputs_of inner c.source d.source given
  pub target : IsValueEnd f.outputs inputs_of inner c.target d.target taken
  pub fits : widens given taken ≡ true
  pub stays : passes d.source d.target ≡ false

-- whether an end is one of these
abbrev pub is_taken : List End → End → Bool
is_taken ends e = list_any (is_end e.instance e.port) ends

-- each leads to an end that has no value before
pub data AreValueConnections (f : Face) (inner : Instances) : List End → List ConnectionTree → List Connection → Type 0 where
  no_value : {before : List End} → AreValueConnections f inner before [] []
  a_value : {before : List End} {c : ConnectionTree} {cs : List ConnectionTree} {d : Connection} {ds : List Connection}
      → IsValueConnection f inner c d → is_taken before d.target ≡ false → AreValueConnections f inner (before ++ d.target ∷ []) cs ds → AreValueConnections f inner before (c ∷ cs) (d ∷ ds)

-- the data inputs of instances that have a parameter
abbrev pub given_in : Instances → List End
given_in nothing = []
given_in (instance name parameters body rest) = map (λ (p : Parameter). record { instance = Some name; port = p.name }) parameters ++ given_in rest

-- ---- instances and composites

abbrev pub instance_texts : List InstanceTree → List Name
instance_texts is = map (λ i. i.name.text) is

-- the first type of a name
abbrev pub type_named : List BlockTree → Name → Option BlockTree
type_named [] x = None
type_named (b ∷ bs) x = if bytes_eq x b.name.text then Some b else type_named bs x

-- By these types:
module _ (bs : List BlockTree) where
  mutual
    -- what a type is, with composites nested at most so deep. Events, variables and instances of a composite share a name space
    pub data IsMade : ℕ → BlockTree → Body → Type 0 where
      a_basic : {d : ℕ} {b : BlockTree} {c : ChartTree} {k : _} → b.body ≡ Chart c → IsBasic b c k → IsMade d b (Basic k)
      a_composite : {d : ℕ} {b : BlockTree} {n : NetworkTree} {ins outs : List Declared} {f : Face} {inner : Instances} {es vs : List Connection}
          → b.body ≡ Network n → IsFace b ins outs f → AreDistinct (face_names b ins outs ++ instance_texts n.instances) → AreInstances d n.instances inner
          → AreEventConnections f inner n.events es → AreValueConnections f inner (given_in inner) n.values vs
          → IsMade (suc d) b (Composite f inner es vs)

    -- an instance: of a type that has no service's name, or of a service
    pub data IsInstance : ℕ → InstanceTree → List Parameter → Body → Type 0 where
      of_type : {d : ℕ} {i : InstanceTree} {b : BlockTree} {qs : List Parameter} {body : Body}
          → is_in i.type.text service_names ≡ false → type_named bs i.type.text ≡ Some b → i.types ≡ None → IsMade d b body → AreParameters (inputs_of body) [] i.parameters qs → IsInstance d i qs body
      of_service : {d : ℕ} {i : InstanceTree} {s : Service} {qs : List Parameter} → IsServed i s qs → IsInstance d i qs (Served s)

    pub data AreInstances : ℕ → List InstanceTree → Instances → Type 0 where
      no_instance : {d : ℕ} → AreInstances d [] nothing
      an_instance : {d : ℕ} {i : InstanceTree} {is : List InstanceTree} {qs : List Parameter} {body : Body} {rest : Instances}
          → IsInstance d i qs body → AreInstances d is rest → AreInstances d (i ∷ is) (instance i.name.text qs body rest)

-- ---- resources and devices

-- how many instances there are, with those in composites
abbrev mutual
  pub inner_count : Body → ℕ
  inner_count (Basic block) = 0
  inner_count (Served service) = 0
  inner_count (Composite face inner events values) = instance_count inner

  pub instance_count : Instances → ℕ
  instance_count nothing = 0
  instance_count (instance name parameters body rest) = suc (inner_count body) + instance_count rest

-- the services among them, depth first in text order
abbrev mutual
  pub services_of : Body → List Service
  services_of (Basic block) = []
  services_of (Served service) = service ∷ []
  services_of (Composite face inner events values) = services_in inner

  pub services_in : Instances → List Service
  services_in nothing = []
  services_in (instance name parameters body rest) = services_of body ++ services_in rest

-- a resource has no ports of its own
abbrev pub no_face : Face
no_face = record { event_inputs = []; event_outputs = []; inputs = []; outputs = [] }

pub record IsResource (bs : List BlockTree) (r : ResourceTree) (q : Resource) : Type 0 where
  pub name : q.name ≡ r.name.text
  pub names : AreDistinct (instance_texts r.network.instances)
  pub instances : AreInstances bs most_deep r.network.instances q.inner
  pub few : instance_count q.inner ≤ most_instances
  pub events : AreEventConnections no_face q.inner r.network.events q.events
  pub values : AreValueConnections no_face q.inner (given_in q.inner) r.network.values q.values

pub data AreResources (bs : List BlockTree) : List ResourceTree → List Resource → Type 0 where
  no_resource : AreResources bs [] []
  a_resource : {r : ResourceTree} {rs : List ResourceTree} {q : Resource} {qs : List Resource} → IsResource bs r q → AreResources bs rs qs → AreResources bs (r ∷ rs) (q ∷ qs)

abbrev pub device_services : List Resource → List Service
device_services [] = []
device_services (q ∷ qs) = services_in q.inner ++ device_services qs

-- the numbers of INPUTs, of OUTPUTs, and the channels of SUBSCRIBEs
abbrev pub inputs : List Service → List ℕ
inputs [] = []
inputs (Input number types ∷ rest) = number ∷ inputs rest
inputs (other ∷ rest) = inputs rest

abbrev pub outputs : List Service → List ℕ
outputs [] = []
outputs (Output number types ∷ rest) = number ∷ outputs rest
outputs (other ∷ rest) = outputs rest

abbrev pub subscribed : List Service → List ℕ
subscribed [] = []
subscribed (Subscribe channel types ∷ rest) = channel.number ∷ subscribed rest
subscribed (other ∷ rest) = subscribed rest

pub record IsDevice (bs : List BlockTree) (d : DeviceTree) (e : Device) : Type 0 where
  pub name : e.name ≡ d.name.text
  pub names : AreDistinct (map (λ r. r.name.text) d.resources)
  pub few : length d.resources ≤ most_resources
  pub resources : AreResources bs d.resources e.resources
  pub inputs_differ : AreNewNumbers [] (inputs (device_services e.resources))
  pub outputs_differ : AreNewNumbers [] (outputs (device_services e.resources))
  pub channels_differ : AreNewNumbers [] (subscribed (device_services e.resources))

pub data AreDevices (bs : List BlockTree) : List DeviceTree → List Device → Type 0 where
  no_device : AreDevices bs [] []
  a_device : {d : DeviceTree} {ds : List DeviceTree} {e : Device} {es : List Device} → IsDevice bs d e → AreDevices bs ds es → AreDevices bs (d ∷ ds) (e ∷ es)

-- ---- systems

abbrev pub all_services : List Device → List Service
all_services [] = []
all_services (e ∷ es) = device_services e.resources ++ all_services es

-- an end of a channel has the shape of the channel
abbrev pub HasShape : (ℕ → Format × List ElemType) → Service → Type 0
HasShape shape (Publish channel types) = (channel.format, types) ≡ shape channel.number
HasShape shape (Subscribe channel types) = (channel.format, types) ≡ shape channel.number
HasShape shape other = Unit {0}

-- all ends of each channel have the same format and types
pub record AreAlike (services : List Service) : Type 0 where
  pub shape : ℕ → Format × List ElemType
  pub each : AllByRecursion (HasShape shape) services

-- the number of a channel of format 2, which no other PUBLISH may have
abbrev pub alone : Channel → List ℕ
alone channel = elim channel.format [ First ↦ [] | Second ↦ channel.number ∷ [] ]

-- the channels of format 2 of PUBLISHs
abbrev pub senders : List Service → List ℕ
senders [] = []
senders (Publish channel types ∷ rest) = alone channel ++ senders rest
senders (other ∷ rest) = senders rest

-- a declared type is one, whether it is used or not
pub record IsProper (bs : List BlockTree) (b : BlockTree) : Type 0 where
  pub name : is_in b.name.text service_names ≡ false
  pub body : Body
  pub made : IsMade bs most_deep b body

-- The source is well typed with these event blocks, and this is its system. Types of the source come before event blocks of the same name.
pub record ElaboratesWith (library : List BlockTree) (source : SourceTree) (system : System) : Type 0 where
  pub names : AreDistinct (map (λ b. b.name.text) source.blocks)
  pub blocks : AllByRecursion (IsProper (source.blocks ++ library)) source.blocks
  pub device_names : AreDistinct (map (λ d. d.name.text) source.system.devices)
  pub few : length source.system.devices ≤ most_devices
  pub devices : AreDevices (source.blocks ++ library) source.system.devices system.devices
  pub channels : AreAlike (all_services system.devices)
  pub senders_differ : AreNewNumbers [] (senders (all_services system.devices))
