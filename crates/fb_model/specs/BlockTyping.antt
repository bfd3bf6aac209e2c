-- When the declaration of a block type is well typed, and what it elaborates to: its interface, and a basic block.
-- IEC 61499-1 edition 2, 5.2 (basic types) and 4.5 (interfaces), this project's profile and its limits.
use Rattle.std.specs.Prelude.{ℕ, suc, ◌≡◌, ◌≤◌, ◌<◌, ℤ, pos, ◌+ℤ◌, ◌-ℤ◌, unsigned_abs, Bool, true, false, List, [], ◌∷◌, ◌++◌, map, length, Option, None, Some}
use Rattle.std.specs.List.{AllByRecursion}
use Rattle.std.specs.Option.{option_map}
use Rattle.fb_words.specs.declared.elem_type.ElemType.{ElemType}
use Rattle.fb_words.specs.declared.elem_type.ElemType.TheVariants as t
use Rattle.fb_model.specs.Names.{Name, is_in}
use Rattle.fb_model.specs.Values.{One}
use Rattle.fb_model.specs.Productions.{Word}
use Rattle.fb_model.specs.Trees.{Constant, ActionTree, StateTree}
use Rattle.fb_model.specs.Declarations.{EventTree, BoundsTree, StartTree, VariableTree, GuardTree, TransitionTree, AlgorithmTree, ChartTree, BlockTree}
use Rattle.fb_model.specs.StructuredText.{literal}
use Rattle.fb_model.specs.TypedText.{Term, constant}
use Rattle.fb_model.specs.TextTyping.{Symbol, IsAsked, IsCondition, IsNumber, AreCommands}
use Rattle.fb_model.specs.System.{Variable, Event, Transition, Procedure, Block, Face}
use Rattle.fb_model.specs.Typing.{texts, AreDistinct, IsKnown, most_ports, most_states, most_transitions, typed_state, state_texts}

-- ---- limits

abbrev pub most_algorithms : ℕ
most_algorithms = 256

abbrev pub most_elements : ℕ
most_elements = 1024

-- ---- variables

-- a variable: its type, the lowest and the highest index of an array, and its start value
pub record Declared : Type 0 where
  pub name : Name
  pub type : ElemType
  pub bounds : Option (ℤ × ℤ)
  pub start : Option ℤ

-- the number of a constant where a type is asked for
abbrev pub IsGiven : ElemType → Constant → ℤ → Type 0
IsGiven a c n = IsAsked [] a (literal c) (constant n)

-- LINT numbers, the lowest at most the highest, for so few elements
pub data AreBounds : Option BoundsTree → Option (ℤ × ℤ) → Type 0 where
  no_bounds : AreBounds None None
  some_bounds : {b : BoundsTree} {low high : ℤ} {n : ℕ} → IsNumber t.Lint b.low low → IsNumber t.Lint b.high high → high ≡ low +ℤ pos n → n < most_elements → AreBounds (Some b) (Some (low, high))

pub data IsStart (a : ElemType) : Option StartTree → Option ℤ → Type 0 where
  no_start : IsStart a None None
  a_start : {s : StartTree} {n : ℤ} → IsGiven a s.value n → IsStart a (Some s) (Some n)

abbrev pub declared : ElemType → Option (ℤ × ℤ) → Option ℤ → Word → Declared
declared a b n w = record { name = w.text; type = a; bounds = b; start = n }

-- each name of a declaration is a variable
pub data AreDeclared : List VariableTree → List Declared → Type 0 where
  none : AreDeclared [] []
  more : {v : VariableTree} {vs : List VariableTree} {b : Option (ℤ × ℤ)} {n : Option ℤ} {ds : List Declared}
      → AreBounds v.bounds b → IsStart v.type v.start n → AreDeclared vs ds → AreDeclared (v ∷ vs) (map (declared v.type b n) v.names ++ ds)

abbrev pub words_in : List VariableTree → List Word
words_in [] = []
words_in (v ∷ vs) = v.names ++ words_in vs

abbrev pub names_in : List Declared → List Name
names_in ds = map (λ d. d.name) ds

-- how many elements there are from one index to another
abbrev pub extent : ℤ × ℤ → ℕ
extent b = suc (unsigned_abs (b.1 -ℤ b.0))

abbrev pub variable_of : Declared → Variable
variable_of d = record { name = d.name; type = d.type; length = option_map extent d.bounds; start = option_map One d.start }

-- a variable as expressions see it
abbrev pub symbol_of : Bool → Declared → Symbol
symbol_of writable d = record { name = d.name; type = d.type; bounds = d.bounds; writable = writable }

-- ---- events and states

abbrev pub event_texts : List EventTree → List Name
event_texts es = map (λ e. e.name.text) es

-- each name is one of these
abbrev pub AreKnown : List Name → List Word → Type 0
AreKnown names ws = AllByRecursion (λ w. is_in w.text names ≡ true) ws

abbrev pub typed_event : EventTree → Event
typed_event e = record { name = e.name.text; carries = texts e.carries }

-- an action runs an algorithm of the block and emits an output of it
pub record IsActionTyped (algorithms outputs : List Name) (a : ActionTree) : Type 0 where
  pub algorithm : IsKnown algorithms a.algorithm
  pub output : IsKnown outputs a.output

-- ---- interfaces

-- the interface of a block: an event input may be WITH data inputs, an event output WITH data outputs
pub record IsFace (b : BlockTree) (ins outs : List Declared) (f : Face) : Type 0 where
  pub inputs : AreDeclared b.inputs ins
  pub outputs : AreDeclared b.outputs outs
  pub takes : AllByRecursion (λ (e : EventTree). AreKnown (names_in ins) e.carries) b.event_inputs
  pub gives : AllByRecursion (λ (e : EventTree). AreKnown (names_in outs) e.carries) b.event_outputs
  pub few_event_inputs : length b.event_inputs ≤ most_ports
  pub few_event_outputs : length b.event_outputs ≤ most_ports
  pub few_inputs : length ins ≤ most_ports
  pub few_outputs : length outs ≤ most_ports
  pub face : f ≡ record { event_inputs = map typed_event b.event_inputs; event_outputs = map typed_event b.event_outputs; inputs = map variable_of ins; outputs = map variable_of outs }

-- the names of an interface, which are all different
abbrev pub face_names : BlockTree → List Declared → List Declared → List Name
face_names b ins outs = event_texts b.event_inputs ++ event_texts b.event_outputs ++ names_in ins ++ names_in outs

abbrev pub face_of : Block → Face
face_of k = record { event_inputs = k.event_inputs; event_outputs = k.event_outputs; inputs = k.inputs; outputs = k.outputs }

-- ---- basic blocks

-- algorithms and guards read all variables of the block, and assign outputs and internal ones
abbrev pub scope : List Declared → List Declared → List Declared → List Symbol
scope ins outs internals = map (symbol_of false) ins ++ map (symbol_of true) outs ++ map (symbol_of true) internals

pub data IsGuard (env : List Symbol) : Option GuardTree → Option Term → Type 0 where
  no_guard : IsGuard env None None
  a_guard : {g : GuardTree} {x : Term} → IsCondition env g.condition x → IsGuard env (Some g) (Some x)

pub record IsTransition (env : List Symbol) (states inputs : List Name) (c : TransitionTree) (d : Transition) : Type 0 where
  pub known_source : is_in c.source.text states ≡ true
  pub known_target : is_in c.target.text states ≡ true
  pub known_event : IsKnown inputs c.event
  pub source : d.source ≡ c.source.text
  pub target : d.target ≡ c.target.text
  pub event : d.event ≡ option_map (λ w. w.text) c.event
  pub guard : IsGuard env c.guard d.guard

pub data AreTransitions (env : List Symbol) (states inputs : List Name) : List TransitionTree → List Transition → Type 0 where
  no_transition : AreTransitions env states inputs [] []
  a_transition : {c : TransitionTree} {cs : List TransitionTree} {d : Transition} {ds : List Transition} → IsTransition env states inputs c d → AreTransitions env states inputs cs ds → AreTransitions env states inputs (c ∷ cs) (d ∷ ds)

pub data AreProcedures (env : List Symbol) : List AlgorithmTree → List Procedure → Type 0 where
  no_procedure : AreProcedures env [] []
  a_procedure : {a : AlgorithmTree} {rest : List AlgorithmTree} {p : Procedure} {ps : List Procedure} → p.name ≡ a.name.text → AreCommands env [] a.body p.algorithm → AreProcedures env rest ps → AreProcedures env (a ∷ rest) (p ∷ ps)

abbrev pub algorithm_texts : List AlgorithmTree → List Name
algorithm_texts fs = map (λ a. a.name.text) fs

-- States, algorithms, and events with variables are three name spaces.
pub record IsBasic (b : BlockTree) (c : ChartTree) (k : Block) : Type 0 where
  pub ins : List Declared
  pub outs : List Declared
  pub inner : List Declared
  pub face : IsFace b ins outs (face_of k)
  pub internals : AreDeclared c.internals inner
  pub internals_are : k.internals ≡ map variable_of inner
  pub names : AreDistinct (face_names b ins outs ++ names_in inner)
  pub state_names : AreDistinct (state_texts c.states)
  pub algorithm_names : AreDistinct (algorithm_texts c.algorithms)
  pub few_states : length c.states ≤ most_states
  pub few_transitions : length c.transitions ≤ most_transitions
  pub few_algorithms : length c.algorithms ≤ most_algorithms
  pub actions : AllByRecursion (λ (s : StateTree). AllByRecursion (IsActionTyped (algorithm_texts c.algorithms) (event_texts b.event_outputs)) s.actions) c.states
  pub states : k.states ≡ map typed_state c.states
  pub transitions : AreTransitions (scope ins outs inner) (state_texts c.states) (event_texts b.event_inputs) c.transitions k.transitions
  pub procedures : AreProcedures (scope ins outs inner) c.algorithms k.procedures
