-- The chart that is made of a block is that block's.
use Rattle.std.proofs.Common.{◌≡◌, ◌≤◌, ℕ, true, List, [], ◌∷◌, map, length, Option, None, Some, string_bytes, Global, sym, subst, arith}
use Rattle.std.specs.List.{AllByRecursion}
use Rattle.std.proofs.lemmas.List.{length-map}
use Rattle.std.specs.declared.string.String.{String}
use Rattle.std.specs.declared.vec.Vec.{Vec}
use Rattle.fb_model.specs.Names.{Name, is_in}
use Rattle.fb_model.specs.System as book
use Rattle.fb_model.specs.Certificates.{event_names, names}
use Rattle.fb_model_laws.specs.Leaves.{IsListed, IsClosedBlock}
use Rattle.fb_types_blocks.specs.declared.typed.Action as from_action
use Rattle.fb_types_blocks.specs.declared.typed.Transition as from_transition
use Rattle.fb_types_blocks.specs.declared.typed.Block.{Block}
use Rattle.fb_types_blocks.specs.Views as source
use Rattle.fb_types_blocks.specs.Views.{name_of, event_of, block_of}
use Rattle.fb_types_blocks.specs.Answers.{names_in_map}
use Rattle.fb_chart.specs.declared.table.Action.{Action}
use Rattle.fb_chart.specs.declared.table.State.{State}
use Rattle.fb_chart.specs.declared.table.Transition.{Transition}
use Rattle.fb_chart.specs.declared.table.ChartCode.{ChartCode}
use Rattle.st_exec.specs.declared.command.Procedure.{Procedure}
use Rattle.st_exec.specs.Forms.{Form}
use Rattle.fb_chart.specs.Tables.{Each, IsOptional, IsProcedure, IsAction, IsState, IsTransition, leaving}
use Rattle.fb_device_tables.specs.declared.chart.Shared.{Shared}
use Rattle.fb_device_tables.specs.Filling.{NamedActions, Routine, IsOptionalNumber, IsActionMade, IsStateMade, IsTransitionMade, IsProcedureMade, IsCodeMade, IsCodeOf, IsShared, leaving_from, most_numbers}
use Rattle.fb_lists.proofs.Lists.{all_source}
use Rattle.fb_device_tables.proofs.Lists.{each_map, each_weaker, each_image}
use Rattle.fb_device_tables.proofs.Routines.{routine_of}
use Rattle.fb_device_tables.proofs.Leaving.{leaving_map, all_leaving}
use Rattle.fb_device_tables.proofs.Numbers.{entry_state, event_names_are, state_names_are}

-- ---- the names of a block

abbrev pub inputs_in : Block → List Name
inputs_in k = names_in_map k.face.event_inputs

abbrev pub outputs_in : Block → List Name
outputs_in k = names_in_map k.face.event_outputs

abbrev pub states_in : Block → List Name
states_in k = names_in_map k.states

pub inputs_are : (k : Block) → event_names (block_of k).event_inputs ≡ inputs_in k
inputs_are k = event_names_are k.face.event_inputs.entries

pub outputs_are : (k : Block) → event_names (block_of k).event_outputs ≡ outputs_in k
outputs_are k = event_names_are k.face.event_outputs.entries

states_are : (k : Block) → names (block_of k).states ≡ states_in k
states_are k = state_names_are k.states.entries

as_few : {X Y Z : Type 0} (f : X → Y) (g : X → Z) (xs : List X) (n : ℕ) → length (map f xs) ≤ n → length (map g xs) ≤ n
as_few f g xs n h = omega (arith, h, length-map xs f, length-map xs g)

-- names are few
pub record IsFew (k : Block) : Type 0 where
  pub few_inputs : length (inputs_in k) ≤ 64
  pub few_outputs : length (outputs_in k) ≤ 64
  pub few_states : length (states_in k) ≤ 256

few : (k : Block) → IsClosedBlock (block_of k) → IsFew k
few k closed =
    record {
      few_inputs = as_few (λ (p : String Global × Vec (String Global) Global). event_of (string_bytes p.0) p.1.items) (λ p. string_bytes p.0) k.face.event_inputs.entries 64 closed.few_inputs;
      few_outputs = as_few (λ (p : String Global × Vec (String Global) Global). event_of (string_bytes p.0) p.1.items) (λ p. string_bytes p.0) k.face.event_outputs.entries 64 closed.few_outputs;
      few_states = as_few entry_state (λ (s : NamedActions). string_bytes s.0) k.states.entries 256 closed.few_states;
    }

-- ---- what a chart names

-- a transition to one of these states, at one of these events
pub record IsCrossing (states inputs : List Name) (t : book.Transition) : Type 0 where
  pub target : is_in t.target states ≡ true
  pub event : IsListed inputs t.event

crossings : (states inputs : List Name) (ts : List book.Transition) → AllByRecursion (λ (t : book.Transition). is_in t.target states ≡ true) ts → AllByRecursion (λ (t : book.Transition). IsListed inputs t.event) ts → AllByRecursion (IsCrossing states inputs) ts
crossings states inputs [] t e = tt
crossings states inputs (x ∷ xs) t e = (record { target = t.0; event = e.0 }, crossings states inputs xs t.1 e.1)

-- actions emit these outputs, if any
abbrev Emits : List Name → book.State → Type 0
Emits outputs s = AllByRecursion (λ (a : book.Action). IsListed outputs a.output) s.actions

-- the same of a block's tables
pub record IsTabled (k : Block) : Type 0 where
  pub states : AllByRecursion (λ (s : NamedActions). Emits (outputs_in k) (entry_state s)) k.states.entries
  pub transitions : AllByRecursion (λ (t : from_transition.Transition). IsCrossing (states_in k) (inputs_in k) (source.transition_of t)) k.transitions.items

tabled : (k : Block) → IsClosedBlock (block_of k) → IsTabled k
tabled k closed =
    let ss = (block_of k).states in
    let ts = (block_of k).transitions in
    let emit : AllByRecursion (Emits (outputs_in k)) ss = subst (λ (outs : List Name). AllByRecursion (Emits outs) ss) (outputs_are k) closed.actions in
    let crossed : AllByRecursion (IsCrossing (states_in k) (inputs_in k)) ts =
    subst (λ (states : List Name). AllByRecursion (IsCrossing states (inputs_in k)) ts) (states_are k)
    (subst (λ (ins : List Name). AllByRecursion (IsCrossing (names (block_of k).states) ins) ts) (inputs_are k)
    (crossings (names (block_of k).states) (event_names (block_of k).event_inputs) ts closed.targets closed.events)) in
    record {
      states = all_source (λ (s : NamedActions). Emits (outputs_in k) (entry_state s)) (Emits (outputs_in k)) entry_state k.states.entries (λ s h. h) emit;
      transitions = all_source (λ (t : from_transition.Transition). IsCrossing (states_in k) (inputs_in k) (source.transition_of t)) (IsCrossing (states_in k) (inputs_in k)) source.transition_of k.transitions.items (λ t h. h) crossed;
    }

-- ---- one by one

optional_is : (names : List Name) (o : Option (String Global)) (n : Option ℕ) → length names ≤ most_numbers → IsListed names (name_of o) → IsOptionalNumber names o n → IsOptional names (name_of o) n
optional_is names None None l h m = tt
optional_is names (Some x) (Some n) l h m = m l h
optional_is names None (Some n) l h m = absurd m
optional_is names (Some x) None l h m = absurd m

action_done : (k : Block) → length (outputs_in k) ≤ most_numbers → length k.procedures.entries ≤ most_numbers → (a : from_action.Action) (x : Action) → IsListed (outputs_in k) (name_of a.output) → IsActionMade k a x
    → IsAction (block_of k) (outputs_in k) (source.action_of a) x
action_done k l procedures a x p m = record { algorithm = m.algorithm procedures; output = optional_is (outputs_in k) a.output x.output l p m.output }

transition_done : (own : List Form) (k : Block) → length (states_in k) ≤ most_numbers → length (inputs_in k) ≤ most_numbers → (t : from_transition.Transition) (x : Transition) → IsCrossing (states_in k) (inputs_in k) (source.transition_of t) → IsTransitionMade own k t x
    → IsTransition own (states_in k) (inputs_in k) (source.transition_of t) x
transition_done own k ls le t x p m = record { target = m.target ls p.target; event = optional_is (inputs_in k) t.event x.event le p.event m.event; guard = m.guard; placed = m.placed }

-- ---- the chart

module _ (own : List Form) (k : Block) (f : IsFew k) (procedures : length k.procedures.entries ≤ most_numbers) (t : IsTabled k) where
  actions_done : (s : NamedActions) (x : State) → Emits (outputs_in k) (entry_state s) → IsStateMade own k s x → Each (IsAction (block_of k) (outputs_in k)) (entry_state s).actions x.actions.items
  actions_done s x p m =
      let acts = s.1.items in
      let xs = x.actions.items in
      let listed : AllByRecursion (λ (a : from_action.Action). IsListed (outputs_in k) (name_of a.output)) acts =
      all_source (λ (a : from_action.Action). IsListed (outputs_in k) (name_of a.output)) (λ (a : book.Action). IsListed (outputs_in k) a.output) source.action_of acts (λ a h. h) p in
      each_image (IsAction (block_of k) (outputs_in k)) source.action_of acts xs
      (each_weaker (λ (a : from_action.Action). IsListed (outputs_in k) (name_of a.output)) (IsActionMade k) (λ (a : from_action.Action) (y : Action). IsAction (block_of k) (outputs_in k) (source.action_of a) y) acts xs
      (action_done k (omega (arith, f.few_outputs)) procedures) listed m.actions)

  transitions_done : (s : NamedActions) (x : State) → IsStateMade own k s x → Each (IsTransition own (states_in k) (inputs_in k)) (leaving (entry_state s).name (block_of k).transitions) x.transitions.items
  transitions_done s x m =
      let name = string_bytes s.0 in
      let ts = leaving_from name k.transitions.items in
      let ys = x.transitions.items in
      subst (λ (us : List book.Transition). Each (IsTransition own (states_in k) (inputs_in k)) us ys) (sym (leaving_map name k.transitions.items))
      (each_image (IsTransition own (states_in k) (inputs_in k)) source.transition_of ts ys
      (each_weaker (λ (u : from_transition.Transition). IsCrossing (states_in k) (inputs_in k) (source.transition_of u)) (IsTransitionMade own k) (λ (u : from_transition.Transition) (y : Transition). IsTransition own (states_in k) (inputs_in k) (source.transition_of u) y) ts ys
      (transition_done own k (omega (arith, f.few_states)) (omega (arith, f.few_inputs))) (all_leaving (λ (u : from_transition.Transition). IsCrossing (states_in k) (inputs_in k) (source.transition_of u)) name k.transitions.items t.transitions) m.transitions))

  state_done : (s : NamedActions) (x : State) → Emits (outputs_in k) (entry_state s) → IsStateMade own k s x → IsState own (inputs_in k) (outputs_in k) (block_of k) (entry_state s) x
  state_done s x p m =
      record {
        name = m.name;
        actions = actions_done s x p m;
        transitions = subst (λ (names : List Name). Each (IsTransition own names (inputs_in k)) (leaving (entry_state s).name (block_of k).transitions) x.transitions.items) (sym (states_are k)) (transitions_done s x m);
      }

  pub states_done : (xs : List State) → Each (IsStateMade own k) k.states.entries xs → Each (IsState own (inputs_in k) (outputs_in k) (block_of k)) (block_of k).states xs
  states_done xs m =
      each_image (IsState own (inputs_in k) (outputs_in k) (block_of k)) entry_state k.states.entries xs
      (each_weaker (λ (s : NamedActions). Emits (outputs_in k) (entry_state s)) (IsStateMade own k) (λ (s : NamedActions) (x : State). IsState own (inputs_in k) (outputs_in k) (block_of k) (entry_state s) x) k.states.entries xs state_done t.states m)

procedure_done : (own : List Form) (r : Routine) (x : Procedure) → IsProcedureMade own r x → IsProcedure own (routine_of r) x
procedure_done own r x m = record { same = m.0; placed = m.1 }

pub code_done : (own : List Form) (k : Block) (x : ChartCode) → IsCodeMade own k x → IsCodeOf own (block_of k) x
code_done own k x m closed procedures =
    let f = few k closed in
    let rs = k.procedures.entries in
    let made = states_done own k f (omega (arith, procedures, length-map rs routine_of)) (tabled k closed) x.states.items m.states in
    record {
      few = subst (λ (names : List Name). length names ≤ 65535) (sym (states_are k)) (omega (arith, f.few_states));
      apart = closed.states_apart;
      states =
          subst (λ (names : List Name). Each (IsState own names (event_names (block_of k).event_outputs) (block_of k)) (block_of k).states x.states.items) (sym (inputs_are k))
          (subst (λ (names : List Name). Each (IsState own (inputs_in k) names (block_of k)) (block_of k).states x.states.items) (sym (outputs_are k)) made);
      procedures =
          each_image (IsProcedure own) routine_of rs x.procedures.items
          (each_map (IsProcedureMade own) (λ (r : Routine) (p : Procedure). IsProcedure own (routine_of r) p) rs x.procedures.items (procedure_done own) m.procedures);
    }

-- what runs of a block runs of one that is the same, with the same layout
pub shares : (s : Shared) (own : List Form) (k : Block) → s.own.now ≡ own → block_of s.block.now.value ≡ block_of k → IsShared s → IsCodeOf own (block_of k) s.code.value
shares s own k o b h = subst (λ (fs : List Form). IsCodeOf fs (block_of k) s.code.value) o (subst (λ (x : book.Block). IsCodeOf s.own.now x s.code.value) b h)
