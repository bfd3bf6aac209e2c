-- Each production takes tokens, and begins with marks of its own, where that is so of expressions, and lists of statements are not longer than what they stand in.
use Rattle.std.proofs.Common.{◌≡◌, ◌≤◌, false, List, ◌∷◌, length, Option, refl, arith}
use Rattle.fb_words.specs.declared.mark.Mark.{Mark}
use Rattle.fb_words.specs.declared.mark.Mark.TheVariants as m
use Rattle.fb_words.specs.declared.elem_type.ElemType.{ElemType}
use Rattle.fb_model.specs.Tokens.{Token, token, mark}
use Rattle.fb_model.specs.Productions.{Gram, Word, IsName, a_name, last, before}
use Rattle.fb_model.specs.Productions as gram
use Rattle.fb_model.specs.Trees.{ParameterTree}
use Rattle.fb_model.specs.Grammar.{IsConstant, negative, plain, with_type, time, yes, no, IsAction, runs, runs_and_emits, emits, IsState, bare, acting, IsStates, some_states, IsParameter, a_parameter, own, inner, IsConnection, a_connection}
use Rattle.fb_model.specs.StructuredText.{Expression, Statements}
use Rattle.fb_model.specs.Declarations.{StartTree, GuardTree, ChartTree, NetworkTree, BodyTree}
use Rattle.fb_model.specs.DeclarationGrammar.{IsKind, unsaid, said, IsWith, alone, along, IsEvent, an_event, IsTypeName, a_type, IsStart, no_start, a_start, IsVariable, of_type, IsBounds, some_bounds, IsInternal, a_variable, an_array, IsTypeList, no_types, some_types, IsTypes, no_brackets, in_brackets, IsParameters, no_parameters, some_parameters, IsInstance, an_instance, IsNetwork, a_network, IsGuard, a_guard, IsCondition, always, on_event, on_event_where, guarded, IsTransition, a_transition, IsTransitions, some_transitions, IsProcedure, a_procedure, IsChart, a_chart, IsBody, basic, composite, IsBlock, a_block, IsResource, a_resource, IsDevice, a_device}
use Rattle.fb_read.specs.Reading.{next_is}
use Rattle.fb_read.proofs.Readers.{Shorter, Avoids}
use Rattle.fb_read.proofs.Repetitions.{many_shrinks, separated_shorter, section_shrinks}
use Rattle.st_parse.proofs.Labels.{integer_shorter}
use Rattle.st_parse.proofs.Shorter.{NoLonger}

pub name_shorter : Shorter IsName
name_shorter ts x rest a_name = omega arith

pub constant_shorter : Shorter IsConstant
constant_shorter ts x rest negative = omega arith
constant_shorter ts x rest plain = omega arith
constant_shorter ts x rest with_type = omega arith
constant_shorter ts x rest time = omega arith
constant_shorter ts x rest yes = omega arith
constant_shorter ts x rest no = omega arith

-- ---- events

kind_shrinks : {ts rest : List Token} → IsKind ts rest → length rest ≤ length ts
kind_shrinks unsaid = omega arith
kind_shrinks said = omega arith

with_shrinks : {ts rest : List Token} {xs : List Word} → IsWith ts xs rest → length rest ≤ length ts
with_shrinks alone = omega arith
with_shrinks (along p) = let a = separated_shorter IsName name_shorter p in omega arith

pub event_shorter : Shorter IsEvent
event_shorter ts x rest (an_event a_name p q) = let a = kind_shrinks p in let b = with_shrinks q in omega arith

pub event_avoids : Avoids m.EndEvent IsEvent
event_avoids ts x rest (an_event a_name p q) = refl

-- ---- variables

pub type_shorter : Shorter IsTypeName
type_shorter ts x rest (a_type p) = omega arith

start_shrinks : {ts rest : List Token} {c : Option StartTree} → IsStart ts c rest → length rest ≤ length ts
start_shrinks no_start = omega arith
start_shrinks (a_start {ts = ts} {rest = rest} {c = c} p) = let a = constant_shorter ts c rest p in omega arith

pub variable_shorter : Shorter IsVariable
variable_shorter ts x rest (of_type {ts₁ = ts₁} {ts₂ = ts₂} {a = t} p q r) =
    let a = separated_shorter IsName name_shorter p in
    let b = type_shorter ts₁ t ts₂ q in
    let c = start_shrinks r in
    omega arith

bounds_shorter : Shorter IsBounds
bounds_shorter ts x rest (some_bounds {s' = s'} {e' = e'} {s'' = s''} {e'' = e''} {ts = on} {mid = mid} {c = c} {d = d} p q) =
    let a = integer_shorter on c (token (mark m.DotDot) s' e' ∷ mid) p in
    let b = integer_shorter mid d (token (mark m.RBracket) s'' e'' ∷ rest) q in
    omega arith

pub internal_shorter : Shorter IsInternal
internal_shorter ts x rest (a_variable p) = variable_shorter ts x rest p
internal_shorter ts x rest (an_array {s₂ = s₂} {e₂ = e₂} {s₃ = s₃} {e₃ = e₃} {ts₁ = ts₁} {ts₂ = ts₂} {b = b} {a = t} p q r) =
    let i = separated_shorter IsName name_shorter p in
    let j = bounds_shorter ts₁ b (token (mark m.Of) s₂ e₂ ∷ ts₂) q in
    let k = type_shorter ts₂ t (token (mark m.Semicolon) s₃ e₃ ∷ rest) r in
    omega arith

-- no list of names begins with a mark
names_avoid : (k : Mark) {ts rest : List Token} {xs : List Word} → gram.IsSeparated m.Comma IsName ts xs rest → next_is k ts ≡ false
names_avoid k (last a_name) = refl
names_avoid k (before a_name p) = refl

pub variable_avoids : Avoids m.EndVar IsVariable
variable_avoids ts x rest (of_type p q r) = names_avoid m.EndVar p

pub internal_avoids : Avoids m.EndVar IsInternal
internal_avoids ts x rest (a_variable p) = variable_avoids ts x rest p
internal_avoids ts x rest (an_array p q r) = names_avoid m.EndVar p

-- ---- instances and connections

pub parameter_shorter : Shorter IsParameter
parameter_shorter ts x rest (a_parameter {mid = mid} {c = c} a_name h) = let a = constant_shorter mid c rest h in omega arith

type_list_shrinks : {ts rest : List Token} {xs : List ElemType} → IsTypeList ts xs rest → length rest ≤ length ts
type_list_shrinks no_types = omega arith
type_list_shrinks (some_types p) = let a = separated_shorter IsTypeName type_shorter p in omega arith

types_shrink : {ts rest : List Token} {xs : Option (List ElemType)} → IsTypes ts xs rest → length rest ≤ length ts
types_shrink no_brackets = omega arith
types_shrink (in_brackets p) = let a = type_list_shrinks p in omega arith

parameters_shrink : {ts rest : List Token} {xs : List ParameterTree} → IsParameters ts xs rest → length rest ≤ length ts
parameters_shrink no_parameters = omega arith
parameters_shrink (some_parameters p) = let a = separated_shorter IsParameter parameter_shorter p in omega arith

pub instance_shorter : Shorter IsInstance
instance_shorter ts x rest (an_instance a_name a_name p q) = let a = types_shrink p in let b = parameters_shrink q in omega arith

pub instance_avoids : Avoids m.EndFbs IsInstance
instance_avoids ts x rest (an_instance a_name p q r) = refl

pub connection_shorter : Shorter IsConnection
connection_shorter ts x rest (a_connection (own a_name) (own a_name)) = omega arith
connection_shorter ts x rest (a_connection (own a_name) (inner a_name a_name)) = omega arith
connection_shorter ts x rest (a_connection (inner a_name a_name) (own a_name)) = omega arith
connection_shorter ts x rest (a_connection (inner a_name a_name) (inner a_name a_name)) = omega arith

pub connection_avoids : Avoids m.EndConnections IsConnection
connection_avoids ts x rest (a_connection (own a_name) q) = refl
connection_avoids ts x rest (a_connection (inner a_name p) q) = refl

network_shrinks : {ts rest : List Token} {n : NetworkTree} → IsNetwork ts n rest → length rest ≤ length ts
network_shrinks (a_network p q r) =
    let a = section_shrinks IsInstance instance_shorter p in
    let b = section_shrinks IsConnection connection_shorter q in
    let c = section_shrinks IsConnection connection_shorter r in
    omega arith

-- ---- systems

pub resource_shorter : Shorter IsResource
resource_shorter ts x rest (a_resource a_name p) = let a = network_shrinks p in omega arith

pub resource_avoids : Avoids m.EndDevice IsResource
resource_avoids ts x rest (a_resource p q) = refl

pub device_shorter : Shorter IsDevice
device_shorter ts x rest (a_device a_name h) = let a = many_shrinks IsResource resource_shorter h in omega arith

pub device_avoids : Avoids m.EndSystem IsDevice
device_avoids ts x rest (a_device p h) = refl

-- ---- states

pub action_shorter : Shorter IsAction
action_shorter ts x rest (runs a_name) = omega arith
action_shorter ts x rest (runs_and_emits a_name a_name) = omega arith
action_shorter ts x rest (emits a_name) = omega arith

pub state_shorter : Shorter IsState
state_shorter ts x rest (bare a_name) = omega arith
state_shorter ts x rest (acting a_name h) = let a = separated_shorter IsAction action_shorter h in omega arith

pub state_avoids : Avoids m.EndStates IsState
state_avoids ts x rest (bare a_name) = refl
state_avoids ts x rest (acting a_name h) = refl

states_shorter : Shorter IsStates
states_shorter ts xs rest (some_states {ts = on} {mid = mid} {x = x} p q) = let a = state_shorter on x mid p in let b = many_shrinks IsState state_shorter q in omega arith

-- ---- blocks

module _ (E : Gram Expression) (L : Gram Statements) where
  module _ (short : Shorter E) where
    guard_shorter : Shorter (IsGuard E L)
    guard_shorter ts x rest (a_guard {s' = s} {e' = e} {ts = on} {x = c} p) = let a = short on c (token (mark m.RBracket) s e ∷ rest) p in omega arith

    condition_shrinks : {ts rest : List Token} {c : Option Word} {g : Option GuardTree} → IsCondition E L ts c g rest → length rest ≤ length ts
    condition_shrinks always = omega arith
    condition_shrinks (on_event a_name) = omega arith
    condition_shrinks (on_event_where {mid = mid} {rest = rest} {g = g} a_name q) = let a = guard_shorter mid g rest q in omega arith
    condition_shrinks (guarded {ts = ts} {rest = rest} {g = g} q) = let a = guard_shorter ts g rest q in omega arith

    pub transition_shorter : Shorter (IsTransition E L)
    transition_shorter ts x rest (a_transition a_name a_name p) = let a = condition_shrinks p in omega arith

    transitions_shorter : Shorter (IsTransitions E L)
    transitions_shorter ts xs rest (some_transitions p) = let a = many_shrinks (IsTransition E L) transition_shorter p in omega arith

  pub transition_avoids : Avoids m.EndTransitions (IsTransition E L)
  transition_avoids ts x rest (a_transition a_name p q) = refl

  pub procedure_avoids : Avoids m.EndFunctionBlock (IsProcedure E L)
  procedure_avoids ts x rest (a_procedure p q) = refl

  pub block_avoids : Avoids m.System (IsBlock E L)
  block_avoids ts x rest (a_block p is os us vs b) = refl

  module _ (inner : NoLonger L) where
    pub procedure_shorter : Shorter (IsProcedure E L)
    procedure_shorter ts x rest (a_procedure {s₄ = s} {e₄ = e} {mid = mid} {xs = xs} a_name p) = let a = inner mid xs (token (mark m.EndAlgorithm) s e ∷ rest) p in omega arith

    module _ (short : Shorter E) where
      chart_shrinks : {ts rest : List Token} {c : ChartTree} → IsChart E L ts c rest → length rest ≤ length ts
      chart_shrinks (a_chart {ts₁ = ts₁} {ts₂ = ts₂} {ts₃ = ts₃} {ss = ss} {cs = cs} p q r t) =
          let a = section_shrinks IsInternal internal_shorter p in
          let b = states_shorter ts₁ ss ts₂ q in
          let c = transitions_shorter short ts₂ cs ts₃ r in
          let d = many_shrinks (IsProcedure E L) procedure_shorter t in
          omega arith

      body_shrinks : {ts rest : List Token} {b : BodyTree} → IsBody E L ts b rest → length rest ≤ length ts
      body_shrinks (basic p) = chart_shrinks p
      body_shrinks (composite p) = network_shrinks p

      pub block_shorter : Shorter (IsBlock E L)
      block_shorter ts x rest (a_block a_name is os us vs b) =
          let p = section_shrinks IsEvent event_shorter is in
          let q = section_shrinks IsEvent event_shorter os in
          let r = section_shrinks IsVariable variable_shorter us in
          let t = section_shrinks IsVariable variable_shorter vs in
          let u = body_shrinks b in
          omega arith
