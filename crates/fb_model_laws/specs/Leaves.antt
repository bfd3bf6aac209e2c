-- What is so of the leaves of well typed systems by their types alone: paths that differ, values in their types, and charts that name what they have.
-- IEC 61499-1 edition 2, 5.3 (composite types and their connections).
use Rattle.std.specs.Prelude.{◌≡◌, ◌≤◌, pos, ◌≤ℤ◌, true, false, List, [], ◌∷◌, ◌++◌, length, Option, None, Some}
use Rattle.std.specs.List.{AllByRecursion}
use Rattle.fb_words.specs.declared.elem_type.ElemType.{ElemType}
use Rattle.fb_model.specs.Names.{Name, Path, path_eq, is_in}
use Rattle.fb_model.specs.Values.{Value, One, lowest, highest, numbers_of}
use Rattle.fb_model.specs.System.{Variable, Event, Action, State, Transition, Block, start_of}
use Rattle.fb_model.specs.Typing.{AreDistinct, most_ports, most_states}
use Rattle.fb_model.specs.NetworkTyping.{variable_named}
use Rattle.fb_model.specs.Wires.{Kind, Charted, Serviced, Source, Output_of, Constant, Leaf, leaf_at}
use Rattle.fb_model.specs.Store.{variable_names, inputs, outputs, internals}
use Rattle.fb_model.specs.Spans.{whole}
use Rattle.fb_model.specs.Shapes.{IsIn}
use Rattle.fb_model.specs.Ranges.{variables}
use Rattle.fb_model.specs.Certificates.{names, event_names}

-- the paths of leaves are all different
abbrev pub AreApart : List Leaf → Type 0
AreApart [] = Unit {0}
AreApart (leaf ∷ rest) = AllByRecursion (λ (other : Leaf). path_eq leaf.path other.path ≡ false) rest × AreApart rest

-- ---- types

-- each number of a value lies in a type
abbrev pub HasType : ElemType → Value → Type 0
HasType a v = AllByRecursion (IsIn (whole a)) (numbers_of v)

-- a type has all values of another
abbrev pub IsWider : ElemType → ElemType → Type 0
IsWider a b = (lowest b ≤ℤ lowest a) × (highest a ≤ℤ highest b)

-- the start values of variables lie in their types
abbrev pub StartsFit : List Variable → Type 0
StartsFit vs = AllByRecursion (λ (v : Variable). HasType v.type (start_of v)) vs

-- each of these variables is the first one of its name in a list
abbrev pub AreFirst : List Variable → List Variable → Type 0
AreFirst whole vs = AllByRecursion (λ (v : Variable). variable_named whole v.name ≡ Some v) vs

-- the names of the variables differ, and their start values lie in their types
pub record IsGoodKind (kind : Kind) : Type 0 where
  pub inputs_first : AreFirst (variables kind) (inputs kind)
  pub outputs_first : AreFirst (variables kind) (outputs kind)
  pub internals_first : AreFirst (variables kind) (internals kind)
  pub inputs_start : StartsFit (inputs kind)
  pub outputs_start : StartsFit (outputs kind)
  pub internals_start : StartsFit (internals kind)

-- ---- where data come from

-- an output of a leaf, whose type the other type widens
pub record IsGivenBy (all : List Leaf) (a : ElemType) (from : Path) (y : Name) : Type 0 where
  pub leaf : Leaf
  pub found : leaf_at all from ≡ Some leaf
  pub variable : Variable
  pub is : variable_named (outputs leaf.kind) y ≡ Some variable
  pub wider : IsWider variable.type a

-- a source of values of a type
abbrev pub Yields : List Leaf → ElemType → Source → Type 0
Yields all a (Output_of from y) = IsGivenBy all a from y
Yields all a (Constant value) = HasType a value

-- a source for a variable, if there is one, and else 0
abbrev pub Feeds : List Leaf → Option Variable → Source → Type 0
Feeds all None s = s ≡ Constant (One (pos 0))
Feeds all (Some v) s = Yields all v.type s

-- the names of its variables differ, first values lie in their types, and each input takes what has its type
pub record IsFed (all : List Leaf) (leaf : Leaf) : Type 0 where
  pub good : IsGoodKind leaf.kind
  pub feeds : (x : Name) → Feeds all (variable_named (inputs leaf.kind) x) (leaf.source x)

-- a name that may be left out is one of these
abbrev pub IsListed : List Name → Option Name → Type 0
IsListed all None = Unit {0}
IsListed all (Some x) = is_in x all ≡ true

-- the block's actions emit outputs of its own, its transitions lead between states of its own, at events of its own, and these are few and apart
pub record IsClosedBlock (block : Block) : Type 0 where
  pub actions : AllByRecursion (λ (s : State). AllByRecursion (λ (a : Action). IsListed (event_names block.event_outputs) a.output) s.actions) block.states
  pub sources : AllByRecursion (λ (t : Transition). is_in t.source (names block.states) ≡ true) block.transitions
  pub targets : AllByRecursion (λ (t : Transition). is_in t.target (names block.states) ≡ true) block.transitions
  pub events : AllByRecursion (λ (t : Transition). IsListed (event_names block.event_inputs) t.event) block.transitions
  pub events_apart : AreDistinct (event_names block.event_inputs ++ event_names block.event_outputs)
  pub states_apart : AreDistinct (names block.states)
  pub few_inputs : length block.event_inputs ≤ most_ports
  pub few_outputs : length block.event_outputs ≤ most_ports
  pub few_states : length block.states ≤ most_states
  -- events are WITH inputs and outputs of the block
  pub takes : AllByRecursion (λ (e : Event). AllByRecursion (λ (x : Name). is_in x (variable_names block.inputs) ≡ true) e.carries) block.event_inputs
  pub gives : AllByRecursion (λ (e : Event). AllByRecursion (λ (x : Name). is_in x (variable_names block.outputs) ≡ true) e.carries) block.event_outputs

-- something holds of a chart's block
abbrev pub OnChart : (Block → Type 0) → Kind → Type 0
OnChart P (Charted block) = P block
OnChart P (Serviced service) = Unit {0}

abbrev pub IsClosed : Kind → Type 0
IsClosed (Charted block) = IsClosedBlock block
IsClosed (Serviced service) = Unit {0}
