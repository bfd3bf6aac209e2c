-- What a refusal says of a declaration: this project's profile, for names, types and limits of IEC 61499-1 edition 2, 4.5 and 5.2.
-- Each says what is at fault and where it stands. Memory that ran out says nothing.
use Rattle.std.specs.Prelude.{◌++◌, ℕ, List, [], ◌∷◌, map, suc, ◌≡◌, ◌≤◌, ℤ, pos, ◌+ℤ◌, Option, None, Some, false, slice_get, ◌⊎◌, if◌then◌else◌}
use Rattle.fb_model.specs.Productions.{Word}
use Rattle.fb_model.specs.Declarations.{EventTree, BlockTree, BoundsTree, StartTree, VariableTree, GuardTree, TransitionTree, AlgorithmTree, ChartTree}
use Rattle.fb_model.specs.BlockTyping.{words_in, Declared, AreDeclared, algorithm_texts, event_texts, scope, most_algorithms, most_elements}
use Rattle.std.specs.List.{Any}
use Rattle.fb_words.specs.declared.elem_type.ElemType.{ElemType}
use Rattle.fb_words.specs.declared.elem_type.ElemType.TheVariants as t
use Rattle.fb_model.specs.Names.{Name, is_in}
use Rattle.fb_model.specs.Trees.{Constant, ActionTree, StateTree}
use Rattle.fb_model.specs.StructuredText.{literal}
use Rattle.fb_model.specs.TextTyping.{Symbol, IsNumber}
use Rattle.fb_model.specs.TextFaults.{Fault, unknown_name, type_mismatch, bad_literal, not_writable, IsNotAsked, IsNoCondition, IsNoNumber, SomeMisdone}
use Rattle.fb_model.specs.Typing.{texts, state_texts, most_ports, most_states, most_transitions}
use Rattle.fb_faults.specs.declared.typing.TypeFault.{TypeFault}
use Rattle.fb_faults.specs.declared.typing.TypeFault.TheVariants.{OutOfMemory, UnknownName, DuplicateName, TypeMismatch, BadLiteral, NotWritable, Limit}

-- the names of events with their places
abbrev pub event_words : List EventTree → List Word
event_words es = map (λ e. e.name) es

-- the names of an interface with their places, in text order
abbrev pub own_words : BlockTree → List Word
own_words b = (event_words b.event_inputs ++ event_words b.event_outputs) ++ (words_in b.inputs ++ words_in b.outputs)

-- the place of the first name, or another one where there is none
abbrev pub place_of : List Word → ℕ → ℕ
place_of [] other = other
place_of (w ∷ ws) other = w.at

-- one of these is at fault, or memory ran out
abbrev pub Among : {X : Type 0} → (X → TypeFault → Type 0) → List X → TypeFault → Type 0
Among P xs f = (f ≡ OutOfMemory) ⊎ Any (λ x. P x f) xs

-- ---- names

-- the place of the first name that is among those before it
abbrev pub repeated : List Name → List Word → Option ℕ
repeated before [] = None
repeated before (w ∷ ws) = if is_in w.text before then Some w.at else repeated (before ++ w.text ∷ []) ws

-- a name is declared again, at the place of the later one
abbrev pub IsRepetition : List Name → List Word → TypeFault → Type 0
IsRepetition before ws OutOfMemory = Unit {0}
IsRepetition before ws (DuplicateName at) = repeated before ws ≡ Some at
IsRepetition before ws f = ⊥

-- there is a declaration behind as many as are allowed, and this is its place
abbrev pub IsExcess : ℕ → List Word → TypeFault → Type 0
IsExcess most ws (Limit at) = (w : Word) × (slice_get ws most ≡ Some w) × (at ≡ w.at)
IsExcess most ws f = ⊥

-- a name that is none of these, at its place
abbrev pub IsUnknown : List Name → Word → TypeFault → Type 0
IsUnknown names w (UnknownName at) = (at ≡ w.at) × (is_in w.text names ≡ false)
IsUnknown names w f = ⊥

-- the same of a name that may be left out
abbrev pub IsUnknownIfSome : List Name → Option Word → TypeFault → Type 0
IsUnknownIfSome names None f = ⊥
IsUnknownIfSome names (Some w) f = IsUnknown names w f

-- ---- Structured Text

-- a fault of Structured Text, at its place
abbrev pub IsFaultOf : (Fault → Type 0) → TypeFault → Type 0
IsFaultOf P (UnknownName at) = P (unknown_name at)
IsFaultOf P (TypeMismatch at) = P (type_mismatch at)
IsFaultOf P (BadLiteral at) = P (bad_literal at)
IsFaultOf P (NotWritable at) = P (not_writable at)
IsFaultOf P f = ⊥

-- the same, or memory ran out
abbrev pub IsTextFault : (Fault → Type 0) → TypeFault → Type 0
IsTextFault P OutOfMemory = Unit {0}
IsTextFault P f = IsFaultOf P f

-- a constant that has not the type asked for at a place, or does not fit its type
abbrev pub IsMisgiven : ElemType → ℕ → Constant → TypeFault → Type 0
IsMisgiven a at c f = IsFaultOf (IsNotAsked [] a at (literal c)) f

-- a constant that is no LINT number, at it
abbrev pub IsNoBound : Constant → TypeFault → Type 0
IsNoBound c f = IsFaultOf (IsNoNumber t.Lint c) f

-- ---- variables

-- what is at fault in the bounds of an array, whose name stands at this place
pub data IsBoundsFault (at : ℕ) (b : BoundsTree) (f : TypeFault) : Type 0 where
  low_no_number : IsNoBound b.low f → IsBoundsFault at b f
  high_no_number : IsNoBound b.high f → IsBoundsFault at b f
  -- the lowest index is above the highest, at this one
  low_above_high : (low high : ℤ) (n : ℕ) → IsNumber t.Lint b.low low → IsNumber t.Lint b.high high → low ≡ high +ℤ pos (suc n) → f ≡ BadLiteral b.high.at → IsBoundsFault at b f
  -- there are too many elements, at the array's name
  excess_element : (low high : ℤ) (n : ℕ) → IsNumber t.Lint b.low low → IsNumber t.Lint b.high high → high ≡ low +ℤ pos n → most_elements ≤ n → f ≡ Limit at → IsBoundsFault at b f

-- the same of bounds that may be left out, at the first name of the declaration
abbrev pub IsBoundsFaultIfSome : List Word → Option BoundsTree → TypeFault → Type 0
IsBoundsFaultIfSome ws None f = ⊥
IsBoundsFaultIfSome ws (Some b) f = IsBoundsFault (place_of ws b.high.at) b f

-- a start value that has not the type of its variable, at its `:=`, or does not fit
abbrev pub IsStartFault : ElemType → Option StartTree → TypeFault → Type 0
IsStartFault a None f = ⊥
IsStartFault a (Some s) f = IsMisgiven a s.at s.value f

pub data IsVariableFault (v : VariableTree) (f : TypeFault) : Type 0 where
  bad_bounds : IsBoundsFaultIfSome v.names v.bounds f → IsVariableFault v f
  bad_start : IsStartFault v.type v.start f → IsVariableFault v f

-- ---- interfaces

-- an event is WITH a name that is no variable of its direction, at that name
abbrev pub IsEventFault : List Name → EventTree → TypeFault → Type 0
IsEventFault names e f = Any (λ w. IsUnknown names w f) e.carries

-- what is at fault in the interface of a block. Its events and variables share one name space
pub data IsFaceFault (b : BlockTree) (f : TypeFault) : Type 0 where
  no_memory_for_face : f ≡ OutOfMemory → IsFaceFault b f
  excess_event_input : IsExcess most_ports (event_words b.event_inputs) f → IsFaceFault b f
  excess_event_output : IsExcess most_ports (event_words b.event_outputs) f → IsFaceFault b f
  excess_input : IsExcess most_ports (words_in b.inputs) f → IsFaceFault b f
  excess_output : IsExcess most_ports (words_in b.outputs) f → IsFaceFault b f
  repeated_name : IsRepetition [] (own_words b) f → IsFaceFault b f
  faulty_input : Any (λ v. IsVariableFault v f) b.inputs → IsFaceFault b f
  faulty_output : Any (λ v. IsVariableFault v f) b.outputs → IsFaceFault b f
  with_no_input : Any (λ e. IsEventFault (texts (words_in b.inputs)) e f) b.event_inputs → IsFaceFault b f
  with_no_output : Any (λ e. IsEventFault (texts (words_in b.outputs)) e f) b.event_outputs → IsFaceFault b f

-- ---- charts

-- what is at fault in an action
pub data IsActionFault (algorithms outputs : List Name) (a : ActionTree) (f : TypeFault) : Type 0 where
  no_memory_for_action : f ≡ OutOfMemory → IsActionFault algorithms outputs a f
  unknown_algorithm : IsUnknownIfSome algorithms a.algorithm f → IsActionFault algorithms outputs a f
  unknown_output : IsUnknownIfSome outputs a.output f → IsActionFault algorithms outputs a f

abbrev pub IsStateFault : List Name → List Name → StateTree → TypeFault → Type 0
IsStateFault algorithms outputs s f = Any (λ a. IsActionFault algorithms outputs a f) s.actions

-- a guard that is no condition, at its `[` or in it
abbrev pub IsGuardFault : List Symbol → Option GuardTree → TypeFault → Type 0
IsGuardFault env None f = ⊥
IsGuardFault env (Some g) f = IsTextFault (IsNoCondition env g.at g.condition) f

-- a name of a transition that is no state or event input of the block, at it
pub data IsEndsFault (states inputs : List Name) (c : TransitionTree) (f : TypeFault) : Type 0 where
  unknown_source : IsUnknown states c.source f → IsEndsFault states inputs c f
  unknown_target : IsUnknown states c.target f → IsEndsFault states inputs c f
  unknown_event : IsUnknownIfSome inputs c.event f → IsEndsFault states inputs c f

-- what is at fault in a transition
pub data IsTransitionFault (env : List Symbol) (states inputs : List Name) (c : TransitionTree) (f : TypeFault) : Type 0 where
  no_memory_for_transition : f ≡ OutOfMemory → IsTransitionFault env states inputs c f
  faulty_ends : IsEndsFault states inputs c f → IsTransitionFault env states inputs c f
  faulty_guard : IsGuardFault env c.guard f → IsTransitionFault env states inputs c f

-- what is at fault in an algorithm
abbrev pub IsAlgorithmFault : List Symbol → AlgorithmTree → TypeFault → Type 0
IsAlgorithmFault env a f = IsTextFault (SomeMisdone env [] a.body) f

-- what is at fault in a chart, in a scope, at a block with these event inputs and event outputs
pub data IsChartFault (env : List Symbol) (inputs outputs : List Name) (c : ChartTree) (f : TypeFault) : Type 0 where
  in_actions : Among (IsStateFault (algorithm_texts c.algorithms) outputs) c.states f → IsChartFault env inputs outputs c f
  in_transitions : Among (IsTransitionFault env (state_texts c.states) inputs) c.transitions f → IsChartFault env inputs outputs c f
  in_algorithms : Among (IsAlgorithmFault env) c.algorithms f → IsChartFault env inputs outputs c f

-- there is more in a chart than is allowed
pub data IsChartExcess (c : ChartTree) (f : TypeFault) : Type 0 where
  excess_state : IsExcess most_states (map (λ s. s.name) c.states) f → IsChartExcess c f
  excess_transition : IsExcess most_transitions (map (λ t. t.source) c.transitions) f → IsChartExcess c f
  excess_algorithm : IsExcess most_algorithms (map (λ a. a.name) c.algorithms) f → IsChartExcess c f

-- ---- basic blocks

-- the variables of a block that algorithms and guards see
pub record IsScope (b : BlockTree) (c : ChartTree) (env : List Symbol) : Type 0 where
  pub ins : List Declared
  pub outs : List Declared
  pub inner : List Declared
  pub inputs : AreDeclared b.inputs ins
  pub outputs : AreDeclared b.outputs outs
  pub internals : AreDeclared c.internals inner
  pub scope_is : env ≡ scope ins outs inner

-- what is at fault in a basic block. Its states and its algorithms are name spaces of their own
pub data IsBasicFault (b : BlockTree) (c : ChartTree) (f : TypeFault) : Type 0 where
  no_memory_for_block : f ≡ OutOfMemory → IsBasicFault b c f
  faulty_face : IsFaceFault b f → IsBasicFault b c f
  excess : IsChartExcess c f → IsBasicFault b c f
  repeated_variable : IsRepetition [] (own_words b ++ words_in c.internals) f → IsBasicFault b c f
  repeated_state : IsRepetition [] (map (λ s. s.name) c.states) f → IsBasicFault b c f
  repeated_algorithm : IsRepetition [] (map (λ a. a.name) c.algorithms) f → IsBasicFault b c f
  faulty_internal : Any (λ v. IsVariableFault v f) c.internals → IsBasicFault b c f
  faulty_action : Any (λ s. IsStateFault (algorithm_texts c.algorithms) (event_texts b.event_outputs) s f) c.states → IsBasicFault b c f
  faulty_transition : (env : List Symbol) → IsScope b c env → Any (λ x. IsTransitionFault env (state_texts c.states) (event_texts b.event_inputs) x f) c.transitions → IsBasicFault b c f
  faulty_algorithm : (env : List Symbol) → IsScope b c env → Any (λ a. IsAlgorithmFault env a f) c.algorithms → IsBasicFault b c f
