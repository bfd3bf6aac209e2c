-- The names in a source tree that a text spells are words in capitals.
use Rattle.std.proofs.Common.{List, [], Option, None, Some}
use Rattle.std.specs.List.{AllByRecursion}
use Rattle.fb_model.specs.Names.{Name}
use Rattle.fb_model.specs.Tokens.{Token}
use Rattle.fb_model.specs.Productions as p
use Rattle.fb_model.specs.Productions.{Gram, Word}
use Rattle.fb_model.specs.Trees.{StateTree, PortTree, ConnectionTree}
use Rattle.fb_model.specs.Declarations.{EventTree, VariableTree, AlgorithmTree, ChartTree, InstanceTree, NetworkTree, BodyTree, Chart, Network, BlockTree, ResourceTree, DeviceTree, SystemTree, SourceTree}
use Rattle.fb_model.specs.StructuredText.{Expression, Statements}
use Rattle.fb_model.specs.Grammar.{IsConstant, negative, plain, with_type, time, yes, no, IsAction, runs, runs_and_emits, emits, IsState, bare, acting, IsStates, some_states, IsParameter, a_parameter, IsPort, own, inner, IsConnection, a_connection}
use Rattle.fb_model.specs.DeclarationGrammar.{IsKind, unsaid, said, IsWith, alone, along, IsEvent, an_event, IsTypeName, a_type, IsStart, no_start, a_start, IsVariable, of_type, IsBounds, some_bounds, IsInternal, a_variable, an_array, IsTypeList, no_types, some_types, IsTypes, no_brackets, in_brackets, IsParameters, no_parameters, some_parameters, IsInstance, an_instance, IsNetwork, a_network, IsGuard, a_guard, IsCondition, always, on_event, on_event_where, guarded, IsTransition, a_transition, IsTransitions, some_transitions, IsProcedure, a_procedure, IsChart, a_chart, IsBody, basic, composite, IsBlock, a_block, IsResource, a_resource, IsDevice, a_device, IsSystem, a_system, IsFile, a_file}
use Rattle.fb_model_laws.specs.Words.{IsCapital}
use Rattle.fb_model_laws.proofs.Capitals.{AreCapitalTokens, Takes, Any, takes_many, takes_separated, takes_section, name_takes}
use Rattle.fb_model_laws.proofs.Statements.{integer_takes}

-- ---- what is known of trees

-- the name of a port, without that of its instance
abbrev pub port_text : PortTree → Name
port_text q = elim q.second [ None ↦ q.first.text | Some w ↦ w.text ]

-- the names of instances, and of the ports that event connections lead to
pub record HasNetworkCapitals (n : NetworkTree) : Type 0 where
  pub instances : AllByRecursion (λ (x : InstanceTree). IsCapital x.name.text) n.instances
  pub targets : AllByRecursion (λ (x : ConnectionTree). IsCapital (port_text x.target)) n.events

-- the names that a declaration of variables gives
abbrev pub HasVariableCapitals : VariableTree → Type 0
HasVariableCapitals v = AllByRecursion (λ (x : Word). IsCapital x.text) v.names

pub record HasChartCapitals (c : ChartTree) : Type 0 where
  pub internals : AllByRecursion HasVariableCapitals c.internals
  pub states : AllByRecursion (λ (x : StateTree). IsCapital x.name.text) c.states
  pub algorithms : AllByRecursion (λ (x : AlgorithmTree). IsCapital x.name.text) c.algorithms

abbrev pub HasBodyCapitals : BodyTree → Type 0
HasBodyCapitals (Chart c) = HasChartCapitals c
HasBodyCapitals (Network n) = HasNetworkCapitals n

pub record HasBlockCapitals (b : BlockTree) : Type 0 where
  pub inputs : AllByRecursion (λ (x : EventTree). IsCapital x.name.text) b.event_inputs
  pub values_in : AllByRecursion HasVariableCapitals b.inputs
  pub values_out : AllByRecursion HasVariableCapitals b.outputs
  pub body : HasBodyCapitals b.body

pub record HasResourceCapitals (r : ResourceTree) : Type 0 where
  pub name : IsCapital r.name.text
  pub network : HasNetworkCapitals r.network

pub record HasDeviceCapitals (d : DeviceTree) : Type 0 where
  pub name : IsCapital d.name.text
  pub resources : AllByRecursion HasResourceCapitals d.resources

pub record HasSourceCapitals (x : SourceTree) : Type 0 where
  pub blocks : AllByRecursion HasBlockCapitals x.blocks
  pub devices : AllByRecursion HasDeviceCapitals x.system.devices

-- ---- events

kind_leaves : {ts rest : List Token} → IsKind ts rest → AreCapitalTokens ts → AreCapitalTokens rest
kind_leaves unsaid h = h
kind_leaves said h = h.1.1

with_takes : Takes Any IsWith
with_takes ts x rest alone h = (tt, h)
with_takes ts x rest (along gs) h = (tt, (takes_separated _ name_takes gs h.1).1)

event_takes : Takes (λ (x : EventTree). IsCapital x.name.text) IsEvent
event_takes ts x rest (an_event {ts₂ = ts₂} {xs = xs} p.a_name k w) h = (h.0, (with_takes ts₂ xs _ w (kind_leaves k h.1)).1.1)

-- ---- variables

constant_takes : Takes Any IsConstant
constant_takes ts x rest negative h = (tt, h.1.1)
constant_takes ts x rest plain h = (tt, h.1)
constant_takes ts x rest with_type h = (tt, h.1)
constant_takes ts x rest time h = (tt, h.1)
constant_takes ts x rest yes h = (tt, h.1)
constant_takes ts x rest no h = (tt, h.1)

type_takes : Takes Any IsTypeName
type_takes ts x rest (a_type t) h = (tt, h.1)

start_takes : Takes Any IsStart
start_takes ts x rest no_start h = (tt, h)
start_takes ts x rest (a_start {ts = on} {c = c} g) h = (tt, (constant_takes on c rest g h.1).1)

variable_takes : Takes HasVariableCapitals IsVariable
variable_takes ts x rest (of_type {ts₁ = ts₁} {ts₂ = ts₂} {a = a} {c = c} gs t s) h =
    let b = takes_separated _ name_takes gs h in
    let d = type_takes ts₁ a ts₂ t b.1.1 in
    (b.0, (start_takes ts₂ c _ s d.1).1.1)

bounds_take : Takes Any IsBounds
bounds_take ts x rest (some_bounds {ts = on} {mid = mid} {c = c} {d = d} g i) h = (tt, (integer_takes mid d _ i (integer_takes on c _ g h.1).1.1).1.1)

internal_takes : Takes HasVariableCapitals IsInternal
internal_takes ts x rest (a_variable g) h = variable_takes ts x rest g h
internal_takes ts x rest (an_array {ts₁ = ts₁} {ts₂ = ts₂} {b = b} {a = a} gs g t) h =
    let c = takes_separated _ name_takes gs h in
    let d = bounds_take ts₁ b _ g c.1.1.1 in
    (c.0, (type_takes ts₂ a _ t d.1.1).1.1)

-- ---- instances and connections

type_list_takes : Takes Any IsTypeList
type_list_takes ts x rest no_types h = (tt, h)
type_list_takes ts x rest (some_types gs) h = (tt, (takes_separated Any type_takes gs h).1)

types_take : Takes Any IsTypes
types_take ts x rest no_brackets h = (tt, h)
types_take ts x rest (in_brackets {ts = on} {xs = xs} g) h = (tt, (type_list_takes on xs _ g h.1).1.1)

parameter_takes : Takes Any IsParameter
parameter_takes ts x rest (a_parameter {mid = mid} {c = c} p.a_name g) h = (tt, (constant_takes mid c rest g h.1.1).1)

parameters_take : Takes Any IsParameters
parameters_take ts x rest no_parameters h = (tt, h)
parameters_take ts x rest (some_parameters gs) h = (tt, (takes_separated Any parameter_takes gs h.1).1.1)

instance_takes : Takes (λ (x : InstanceTree). IsCapital x.name.text) IsInstance
instance_takes ts x rest (an_instance {ts₂ = ts₂} {ts₃ = ts₃} {types = types} {ps = ps} p.a_name p.a_name t g) h =
    let a = types_take ts₂ types ts₃ t h.1.1.1 in
    (h.0, (parameters_take ts₃ ps _ g a.1).1.1)

port_takes : Takes (λ (x : PortTree). IsCapital (port_text x)) IsPort
port_takes ts x rest (own p.a_name) h = (h.0, h.1)
port_takes ts x rest (inner p.a_name p.a_name) h = (h.1.1.0, h.1.1.1)

connection_takes : Takes (λ (x : ConnectionTree). IsCapital (port_text x.target)) IsConnection
connection_takes ts x rest (a_connection {mid = mid} {p = p} {q = q} s t) h = let a = port_takes mid q _ t (port_takes ts p _ s h).1.1 in (a.0, a.1.1)

network_takes : Takes HasNetworkCapitals IsNetwork
network_takes ts x rest (a_network is es vs) h =
    let a = takes_section _ instance_takes is h in
    let b = takes_section _ connection_takes es a.1 in
    let c = takes_section _ connection_takes vs b.1 in
    (record { instances = a.0; targets = b.0 }, c.1)

-- ---- blocks

action_takes : Takes Any IsAction
action_takes ts x rest (runs p.a_name) h = (tt, h.1)
action_takes ts x rest (runs_and_emits p.a_name p.a_name) h = (tt, h.1.1.1)
action_takes ts x rest (emits p.a_name) h = (tt, h.1.1)

state_takes : Takes (λ (x : StateTree). IsCapital x.name.text) IsState
state_takes ts x rest (bare p.a_name) h = (h.0, h.1.1)
state_takes ts x rest (acting p.a_name s) h = (h.0, (takes_separated _ action_takes s h.1.1).1.1)

states_take : Takes (AllByRecursion (λ (x : StateTree). IsCapital x.name.text)) IsStates
states_take ts xs rest (some_states {ts = on} {mid = mid} {x = x} s ss) h = let a = state_takes on x mid s h.1 in let b = takes_many _ state_takes ss a.1 in ((a.0, b.0), b.1.1)

-- of expressions, and of lists of statements, this is known
module _ (E : Gram Expression) (expr : Takes Any E) (L : Gram Statements) (list : Takes Any L) where
  guard_takes : Takes Any (IsGuard E L)
  guard_takes ts x rest (a_guard {ts = on} {x = y} g) h = (tt, (expr on y _ g h.1).1.1)

  condition_leaves : (ts : List Token) (x : Option Word) (g : _) (rest : List Token) → IsCondition E L ts x g rest → AreCapitalTokens ts → AreCapitalTokens rest
  condition_leaves ts x g rest always h = h.1
  condition_leaves ts x g rest (on_event p.a_name) h = h.1
  condition_leaves ts x g rest (on_event_where {mid = mid} {g = y} p.a_name s) h = (guard_takes mid y rest s h.1).1
  condition_leaves ts x g rest (guarded {g = y} s) h = (guard_takes ts y rest s h).1

  transition_takes : Takes Any (IsTransition E L)
  transition_takes ts x rest (a_transition {on = on} {c = c} {g = g} p.a_name p.a_name s) h = (tt, (condition_leaves on c g _ s h.1.1.1.1).1)

  transitions_take : Takes Any (IsTransitions E L)
  transitions_take ts xs rest (some_transitions s) h = (tt, (takes_many Any transition_takes s h.1).1.1)

  procedure_takes : Takes (λ (x : AlgorithmTree). IsCapital x.name.text) (IsProcedure E L)
  procedure_takes ts x rest (a_procedure {mid = mid} {xs = xs} p.a_name s) h = (h.1.0, (list mid xs _ s h.1.1.1.1.1).1.1)

  chart_takes : Takes HasChartCapitals (IsChart E L)
  chart_takes ts x rest (a_chart {ts₁ = ts₁} {ts₂ = ts₂} {ts₃ = ts₃} {ss = ss} {cs = cs} vs states transitions fs) h =
      let a = takes_section _ internal_takes vs h in
      let b = states_take ts₁ ss ts₂ states a.1 in
      let c = transitions_take ts₂ cs ts₃ transitions b.1 in
      let d = takes_many _ procedure_takes fs c.1 in
      (record { internals = a.0; states = b.0; algorithms = d.0 }, d.1)

  body_takes : Takes HasBodyCapitals (IsBody E L)
  body_takes ts x rest (basic {c = c} g) h = chart_takes ts c rest g h
  body_takes ts x rest (composite {n = n} g) h = network_takes ts n rest g h

  block_takes : Takes HasBlockCapitals (IsBlock E L)
  block_takes ts x rest (a_block {ts₅ = ts₅} {b = b} p.a_name is os us vs g) h =
      let a = takes_section _ event_takes is h.1.1 in
      let c = takes_section _ event_takes os a.1 in
      let d = takes_section _ variable_takes us c.1 in
      let e = takes_section _ variable_takes vs d.1 in
      let f = body_takes ts₅ b _ g e.1 in
      (record { inputs = a.0; values_in = d.0; values_out = e.0; body = f.0 }, f.1.1)

-- ---- systems

resource_takes : Takes HasResourceCapitals IsResource
resource_takes ts x rest (a_resource {mid = mid} {n = n} p.a_name g) h = let a = network_takes mid n _ g h.1.1 in (record { name = h.1.0; network = a.0 }, a.1.1)

device_takes : Takes HasDeviceCapitals IsDevice
device_takes ts x rest (a_device p.a_name rs) h = let a = takes_many _ resource_takes rs h.1.1 in (record { name = h.1.0; resources = a.0 }, a.1.1)

system_takes : Takes (λ (y : SystemTree). AllByRecursion HasDeviceCapitals y.devices) IsSystem
system_takes ts x rest (a_system p.a_name ds) h = let a = takes_many _ device_takes ds h.1.1 in (a.0, a.1.1)

pub file_takes : (E : Gram Expression) → Takes Any E → (L : Gram Statements) → Takes Any L → (ts : List Token) (x : SourceTree) → IsFile E L ts x → AreCapitalTokens ts → HasSourceCapitals x
file_takes E expr L list ts x (a_file {mid = mid} {y = y} bs s) h = let a = takes_many _ (block_takes E expr L list) bs h in record { blocks = a.0; devices = (system_takes mid y [] s a.1).0 }
