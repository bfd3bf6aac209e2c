-- What is at fault in a network, and where: this project's profile, for connections of IEC 61499-1 edition 2, 5.2 and 5.3.
use Rattle.std.specs.Prelude.{List, [], ◌∷◌, ◌++◌, ◌≡◌, Bool, ◌||◌, Option, None, Some, is_some, if◌then◌else◌, ℕ, ◌⊎◌, true, false, map}
use Rattle.fb_model.specs.Names.{Name, is_in}
use Rattle.fb_model.specs.System as book
use Rattle.fb_model.specs.Typing.{names_of, event_inputs_of, event_outputs_of, body_named}
use Rattle.fb_model.specs.Store.{variable_names}
use Rattle.std.specs.Option.{option_map}
use Rattle.fb_model.specs.Productions.{Word}
use Rattle.fb_model.specs.Trees.{PortTree, ConnectionTree, ParameterTree}
use Rattle.fb_model.specs.System.{Face, Body, Instances, End, Variable, Connection, Service}
use Rattle.fb_model.specs.Wires.{inputs_of}
use Rattle.fb_model.specs.NetworkTyping.{variable_named, outputs_of, IsValueConnection, IsService, passes, is_taken, given_in, lacking, reserved}
use Rattle.fb_words.specs.declared.end.Way.{Way}
use Rattle.fb_words.specs.declared.end.Way.TheVariants as w
use Rattle.fb_words.specs.declared.end.Carried.{Carried}
use Rattle.fb_words.specs.declared.end.Carried.TheVariants.{Events, Values}
use Rattle.std.specs.List.{Any}
use Rattle.fb_words.specs.declared.elem_type.ElemType.{ElemType}
use Rattle.fb_model.specs.Declarations.{InstanceTree, NetworkTree}
use Rattle.fb_faults.specs.declared.typing.TypeFault.{TypeFault}
use Rattle.fb_faults.specs.declared.typing.TypeFault.TheVariants.{OutOfMemory, UnknownName, TypeMismatch, BadConnection, TwoSources}
use Rattle.fb_model.specs.BlockFaults.{IsRepetition, IsMisgiven}
use Rattle.fb_model.specs.ServiceFaults.{IsBareFault, IsServiceFault}
use Rattle.fb_model.specs.TextTyping.{widens}
use Rattle.fb_model.specs.Services.{service_inputs}
use Rattle.fb_words.specs.declared.end.Way.TheVariants.{EventSource, EventTarget, ValueSource, ValueTarget}

-- an instance: its name, its parameters and its body
abbrev pub Placed : Type 0
Placed = Name × List book.Parameter × book.Body

abbrev pub placed_in : List Placed → book.Instances
placed_in [] = book.nothing
placed_in (i ∷ is) = book.instance i.0 i.1 i.2 (placed_in is)

-- the names of an interface
abbrev pub own_names : book.Face → List Name
own_names f = names_of f.event_inputs ++ names_of f.event_outputs ++ variable_names f.inputs ++ variable_names f.outputs

abbrev pub event_port : List Name → Name → Option Carried
event_port names x = if is_in x names then Some Events else None

abbrev pub value_port : List Variable → Name → Option Carried
value_port vs x = option_map (λ v. Values v.type) (variable_named vs x)

-- what an own port of a name carries, as a source or a target of events or of values
abbrev pub own_port : Way → Face → Name → Option Carried
own_port w.EventSource f x = event_port (names_of f.event_inputs) x
own_port w.EventTarget f x = event_port (names_of f.event_outputs) x
own_port w.ValueSource f x = value_port f.inputs x
own_port w.ValueTarget f x = value_port f.outputs x

-- and a port of an instance
abbrev pub inner_port : Way → Body → Name → Option Carried
inner_port w.EventSource b x = event_port (event_outputs_of b) x
inner_port w.EventTarget b x = event_port (event_inputs_of b) x
inner_port w.ValueSource b x = value_port (outputs_of b) x
inner_port w.ValueTarget b x = value_port (inputs_of b) x

-- whether a name is a port at all
abbrev pub is_own_port : Face → Name → Bool
is_own_port f x = (is_some (own_port w.EventSource f x) || is_some (own_port w.EventTarget f x)) || (is_some (own_port w.ValueSource f x) || is_some (own_port w.ValueTarget f x))

abbrev pub is_inner_port : Body → Name → Bool
is_inner_port b x = (is_some (inner_port w.EventSource b x) || is_some (inner_port w.EventTarget b x)) || (is_some (inner_port w.ValueSource b x) || is_some (inner_port w.ValueTarget b x))

-- an end that is an own port, or a port of an instance, and what it carries
abbrev pub IsOwnEnd : Way → Face → Word → End → Carried → Type 0
IsOwnEnd way f x e c = (own_port way f x.text ≡ Some c) × (e ≡ record { instance = None; port = x.text })

abbrev pub IsInnerEnd : Way → Body → Word → Word → End → Carried → Type 0
IsInnerEnd way b x y e c = (inner_port way b y.text ≡ Some c) × (e ≡ record { instance = Some x.text; port = y.text })

-- an end of a connection, and what it carries
pub data IsPortEnd (way : Way) (f : Face) (inner : Instances) (p : PortTree) (e : End) (c : Carried) : Type 0 where
  own : p.second ≡ None → IsOwnEnd way f p.first e c → IsPortEnd way f inner p e c
  within : {y : Word} {b : Body} → p.second ≡ Some y → body_named inner p.first.text ≡ Some b → IsInnerEnd way b p.first y e c → IsPortEnd way f inner p e c

-- ---- ends

-- a port that cannot stand at its end, of a connection whose TO stands at this place: another kind of port, or none
abbrev pub IsWrongPort : Bool → ℕ → Word → TypeFault → Type 0
IsWrongPort true at x w = w ≡ BadConnection at
IsWrongPort false at x w = w ≡ UnknownName x.at

-- what is at fault in an own port
pub data IsOwnFault (way : Way) (f : Face) (at : ℕ) (x : Word) (w : TypeFault) : Type 0 where
  no_memory_for_own : w ≡ OutOfMemory → IsOwnFault way f at x w
  wrong_own : own_port way f x.text ≡ None → IsWrongPort (is_own_port f x.text) at x w → IsOwnFault way f at x w

-- what is at fault in a port of an instance
pub data IsInnerFault (way : Way) (b : Body) (at : ℕ) (y : Word) (w : TypeFault) : Type 0 where
  no_memory_for_inner : w ≡ OutOfMemory → IsInnerFault way b at y w
  wrong_inner : inner_port way b y.text ≡ None → IsWrongPort (is_inner_port b y.text) at y w → IsInnerFault way b at y w

-- what is at fault in an end
pub data IsEndFault (way : Way) (f : Face) (inner : Instances) (at : ℕ) (p : PortTree) (w : TypeFault) : Type 0 where
  faulty_own : p.second ≡ None → IsOwnFault way f at p.first w → IsEndFault way f inner at p w
  -- a name that no instance has, at it
  unknown_instance : {y : Word} → p.second ≡ Some y → body_named inner p.first.text ≡ None → w ≡ UnknownName p.first.at → IsEndFault way f inner at p w
  faulty_inner : {y : Word} {b : Body} → p.second ≡ Some y → body_named inner p.first.text ≡ Some b → IsInnerFault way b at y w → IsEndFault way f inner at p w

-- ---- connections

-- what is at fault in an event connection
pub data IsEventFault (f : Face) (inner : Instances) (c : ConnectionTree) (w : TypeFault) : Type 0 where
  faulty_source : IsEndFault EventSource f inner c.at c.source w → IsEventFault f inner c w
  faulty_target : IsEndFault EventTarget f inner c.at c.target w → IsEventFault f inner c w
  -- from an own port to an own port, at the TO
  passing : {d e : End} {k l : Carried} → IsPortEnd EventSource f inner c.source d k → IsPortEnd EventTarget f inner c.target e l → passes d e ≡ true → w ≡ BadConnection c.at → IsEventFault f inner c w

-- one of these is at fault, or memory ran out
abbrev pub Among : {X : Type 0} → (X → TypeFault → Type 0) → List X → TypeFault → Type 0
Among P xs w = (w ≡ OutOfMemory) ⊎ Any (λ x. P x w) xs

-- what is at fault in a data connection, where these ends have a value
pub data IsValueFault (f : Face) (inner : Instances) (before : List End) (c : ConnectionTree) (w : TypeFault) : Type 0 where
  no_memory_for_value : w ≡ OutOfMemory → IsValueFault f inner before c w
  faulty_origin : IsEndFault ValueSource f inner c.at c.source w → IsValueFault f inner before c w
  faulty_goal : IsEndFault ValueTarget f inner c.at c.target w → IsValueFault f inner before c w
  passing_value : {d e : End} {k l : Carried} → IsPortEnd ValueSource f inner c.source d k → IsPortEnd ValueTarget f inner c.target e l → passes d e ≡ true → w ≡ BadConnection c.at → IsValueFault f inner before c w
  -- the target's type is not that of the source, and does not hold all of its values, at the TO
  other_type : {d e : End} {a b : ElemType} → IsPortEnd ValueSource f inner c.source d (Values a) → IsPortEnd ValueTarget f inner c.target e (Values b) → widens a b ≡ false → w ≡ TypeMismatch c.at → IsValueFault f inner before c w
  -- the target has a value already, at the TO
  second_source : {e : End} {l : Carried} → IsPortEnd ValueTarget f inner c.target e l → is_taken before e ≡ true → w ≡ TwoSources c.at → IsValueFault f inner before c w

-- what is at fault in data connections: one of them, where those before it give their targets a value
pub data IsValuesFault (f : Face) (inner : Instances) : List End → List ConnectionTree → TypeFault → Type 0 where
  this_value : {before : List End} {c : ConnectionTree} {cs : List ConnectionTree} {w : TypeFault} → IsValueFault f inner before c w → IsValuesFault f inner before (c ∷ cs) w
  later_value : {before : List End} {c : ConnectionTree} {cs : List ConnectionTree} {d : Connection} {w : TypeFault}
      → IsValueConnection f inner c d → is_taken before d.target ≡ false → IsValuesFault f inner (before ++ d.target ∷ []) cs w → IsValuesFault f inner before (c ∷ cs) w

-- ---- parameters and instances

-- what is at fault in a parameter of data inputs, where these names have a value
pub data IsParameterFault (vs : List Variable) (before : List Name) (p : ParameterTree) (w : TypeFault) : Type 0 where
  no_memory_for_parameter : w ≡ OutOfMemory → IsParameterFault vs before p w
  -- a name that is no data input, at it
  unknown_input : variable_named vs p.name.text ≡ None → w ≡ UnknownName p.name.at → IsParameterFault vs before p w
  -- a data input that has a value already, at the `:=`
  given_again : is_in p.name.text before ≡ true → w ≡ TwoSources p.at → IsParameterFault vs before p w
  -- a value that is not one of the type
  misgiven : {v : Variable} → variable_named vs p.name.text ≡ Some v → IsMisgiven v.type p.at p.value w → IsParameterFault vs before p w

-- what is at fault in parameters: one of them, where those before it give values
pub data IsParametersFault (vs : List Variable) : List Name → List ParameterTree → TypeFault → Type 0 where
  this_parameter : {before : List Name} {p : ParameterTree} {ps : List ParameterTree} {w : TypeFault} → IsParameterFault vs before p w → IsParametersFault vs before (p ∷ ps) w
  later_parameter : {before : List Name} {p : ParameterTree} {ps : List ParameterTree} {w : TypeFault} → IsParametersFault vs (before ++ p.name.text ∷ []) ps w → IsParametersFault vs before (p ∷ ps) w

-- what is at fault in an instance of a declared type with this body
pub data IsPlainFault (i : InstanceTree) (body : Body) (w : TypeFault) : Type 0 where
  no_memory_for_plain : w ≡ OutOfMemory → IsPlainFault i body w
  with_types : IsBareFault i w → IsPlainFault i body w
  faulty_parameters : IsParametersFault (inputs_of body) [] i.parameters w → IsPlainFault i body w

-- what is at fault in an instance of a service
pub data IsServedFault (i : InstanceTree) (w : TypeFault) : Type 0 where
  no_memory_for_served : w ≡ OutOfMemory → IsServedFault i w
  faulty_service : IsServiceFault i w → IsServedFault i w
  faulty_values : {s : Service} → IsService i s → IsParametersFault (service_inputs s) [] (lacking (reserved s) i.parameters) w → IsServedFault i w

-- ---- networks

-- what is at fault in a network of these instances
pub data IsNetworkFault (f : Face) (n : NetworkTree) (ps : List Placed) (w : TypeFault) : Type 0 where
  no_memory_for_network : w ≡ OutOfMemory → IsNetworkFault f n ps w
  repeated_instance : IsRepetition (own_names f) (map (λ i. i.name) n.instances) w → IsNetworkFault f n ps w
  faulty_events : Among (IsEventFault f (placed_in ps)) n.events w → IsNetworkFault f n ps w
  faulty_values_of : IsValuesFault f (placed_in ps) (given_in (placed_in ps)) n.values w → IsNetworkFault f n ps w
