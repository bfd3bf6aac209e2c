-- What a known block is in its tables.
use Rattle.std.proofs.Common.{◌≡◌, true, List, [], ◌∷◌, map, refl, ap, subst, string_bytes, Global}
use Rattle.std.specs.List.{AllByRecursion}
use Rattle.std.specs.declared.string.String.{String}
use Rattle.std.specs.declared.vec.Vec.{Vec}
use Rattle.fb_model.specs.Names.{Name, is_in}
use Rattle.fb_model.specs.System as book
use Rattle.fb_model.specs.Spelling.{AreWords}
use Rattle.fb_model.specs.Typing.{names_of}
use Rattle.fb_model.specs.Certificates.{names, event_names}
use Rattle.fb_types_blocks.specs.declared.typed.Transition.{Transition}
use Rattle.fb_types_blocks.specs.declared.typed.Block.{Block}
use Rattle.fb_types_blocks.specs.Views.{event_of, action_of, transition_of, block_of}
use Rattle.fb_model_laws.specs.Leaves.{IsListed, IsClosedBlock}
use Rattle.fb_check_columns.specs.Reckoning.{NamedActions, table_names}
use Rattle.fb_check_columns.specs.Paying.{outputs_in, inputs_in}
use Rattle.fb_lists.proofs.Lists.{all_source}

-- ---- names

abbrev pub state_of : NamedActions → book.State
state_of s = record { name = string_bytes s.0; actions = map action_of s.1.items }

pub event_names_are : (es : List (String Global × Vec (String Global) Global)) → event_names (map (λ p. event_of (string_bytes p.0) p.1.items) es) ≡ map (λ p. string_bytes p.0) es
event_names_are [] = refl
event_names_are (e ∷ es) = ap (λ ns. string_bytes e.0 ∷ ns) (event_names_are es)

pub typed_names_are : (es : List (String Global × Vec (String Global) Global)) → names_of (map (λ p. event_of (string_bytes p.0) p.1.items) es) ≡ map (λ p. string_bytes p.0) es
typed_names_are [] = refl
typed_names_are (e ∷ es) = ap (λ ns. string_bytes e.0 ∷ ns) (typed_names_are es)

state_names_are : (ss : List NamedActions) → names (map state_of ss) ≡ map (λ p. string_bytes p.0) ss
state_names_are [] = refl
state_names_are (s ∷ ss) = ap (λ ns. string_bytes s.0 ∷ ns) (state_names_are ss)

abbrev pub states_in : Block → List Name
states_in k = table_names k.states

-- ---- a known block

abbrev pub IsEmitting : List Name → book.Action → Type 0
IsEmitting outputs a = IsListed outputs a.output

abbrev pub IsCrossing : List Name → List Name → book.Transition → Type 0
IsCrossing states inputs t = (is_in t.source states ≡ true) × (is_in t.target states ≡ true) × IsListed inputs t.event

pub record IsTabled (k : Block) : Type 0 where
  pub actions : AllByRecursion (λ (s : NamedActions). AllByRecursion (IsEmitting (outputs_in k)) (map action_of s.1.items)) k.states.entries
  pub transitions : AllByRecursion (λ (t : Transition). IsCrossing (states_in k) (inputs_in k) (transition_of t)) k.transitions.items
  pub inputs : AreWords (inputs_in k)
  pub states : AreWords (states_in k)

crossing : (states inputs : List Name) (ts : List book.Transition)
    → AllByRecursion (λ (t : book.Transition). is_in t.source states ≡ true) ts → AllByRecursion (λ (t : book.Transition). is_in t.target states ≡ true) ts → AllByRecursion (λ (t : book.Transition). IsListed inputs t.event) ts
    → AllByRecursion (IsCrossing states inputs) ts
crossing states inputs [] s t e = tt
crossing states inputs (x ∷ xs) s t e = ((s.0, t.0, e.0), crossing states inputs xs s.1 t.1 e.1)

pub tabled : (k : Block) → IsClosedBlock (block_of k) → AreWords (names (block_of k).states) → AreWords (event_names (block_of k).event_inputs) → IsTabled k
tabled k closed states inputs =
    let ts = map transition_of k.transitions.items in
    let ss = map state_of k.states.entries in
    let states_are : names ss ≡ states_in k = state_names_are k.states.entries in
    let inputs_are : event_names (block_of k).event_inputs ≡ inputs_in k = event_names_are k.face.event_inputs.entries in
    let outputs_are : event_names (block_of k).event_outputs ≡ outputs_in k = event_names_are k.face.event_outputs.entries in
    let ActsIn : List Name → book.State → Type 0 = λ ns s. AllByRecursion (IsEmitting ns) s.actions in
    let acting : AllByRecursion (ActsIn (outputs_in k)) ss = subst (λ (ns : List Name). AllByRecursion (ActsIn ns) ss) outputs_are closed.actions in
    let crossings : AllByRecursion (IsCrossing (states_in k) (inputs_in k)) ts =
    subst (λ (ns : List Name). AllByRecursion (IsCrossing ns (inputs_in k)) ts) states_are
    (subst (λ (ns : List Name). AllByRecursion (IsCrossing (names ss) ns) ts) inputs_are (crossing (names ss) (event_names (block_of k).event_inputs) ts closed.sources closed.targets closed.events)) in
    record {
      actions = all_source (λ (s : NamedActions). AllByRecursion (IsEmitting (outputs_in k)) (map action_of s.1.items)) (ActsIn (outputs_in k)) state_of k.states.entries (λ s a. a) acting;
      transitions = all_source (λ (x : Transition). IsCrossing (states_in k) (inputs_in k) (transition_of x)) (IsCrossing (states_in k) (inputs_in k)) transition_of k.transitions.items (λ x a. a) crossings;
      inputs = subst (λ (ns : List Name). AreWords ns) inputs_are inputs;
      states = subst (λ (ns : List Name). AreWords ns) states_are states;
    }
