-- Charts of well typed systems name states, events and outputs of their own block alone.
use Rattle.std.proofs.Common.{◌≡◌, ◌≤◌, ℕ, sym, ap, subst, refl, true, List, [], ◌∷◌, ◌++◌, map, length, Option, None, Some, ◌∙◌, arith}
use Rattle.std.specs.List.{AllByRecursion}
use Rattle.std.specs.Option.{option_map}
use Rattle.std.proofs.lemmas.List.{length-map}
use Rattle.fb_model.specs.Names.{Name, is_in}
use Rattle.fb_model.specs.Productions.{Word}
use Rattle.fb_model.specs.Trees.{ActionTree, StateTree}
use Rattle.fb_model.specs.Declarations.{EventTree, TransitionTree, ChartTree, BlockTree, SourceTree}
use Rattle.fb_model.specs.TextTyping.{Symbol}
use Rattle.fb_model.specs.System.{Event, Action, State, Transition, Block, Device, System}
use Rattle.fb_model.specs.Typing.{texts, IsKnown, AreNew, AreDistinct, most_ports, most_states, state_texts, typed_action, typed_state}
use Rattle.fb_model.specs.BlockTyping.{Declared, AreKnown, names_in, variable_of, event_texts, typed_event, algorithm_texts, IsActionTyped, AreTransitions, no_transition, a_transition, IsBasic}
use Rattle.fb_model.specs.NetworkTyping.{ElaboratesWith}
use Rattle.fb_model.specs.Wires.{Serviced, Charted, Kind, Leaf, leaves}
use Rattle.fb_model.specs.Store.{variable_names}
use Rattle.fb_model.specs.Certificates.{names, event_names}
use Rattle.fb_model.proofs.Lists.{all_weaker}
use Rattle.fb_model_laws.specs.Leaves.{IsListed, IsClosedBlock, OnChart, IsClosed}
use Rattle.fb_model_laws.proofs.Charts.{on_charts}

-- ---- one block

events_named : (es : List EventTree) → event_names (map typed_event es) ≡ event_texts es
events_named [] = refl
events_named (e ∷ es) = ap (λ ns. e.name.text ∷ ns) (events_named es)

states_named : (ss : List StateTree) → names (map typed_state ss) ≡ state_texts ss
states_named [] = refl
states_named (s ∷ ss) = ap (λ ns. s.name.text ∷ ns) (states_named ss)

listed : (all : List Name) (w : Option Word) → IsKnown all w → IsListed all (option_map (λ (x : Word). x.text) w)
listed all None h = tt
listed all (Some w) h = h

actions_listed : (algorithms outputs : List Name) (acts : List ActionTree) → AllByRecursion (IsActionTyped algorithms outputs) acts → AllByRecursion (λ (a : Action). IsListed outputs a.output) (map typed_action acts)
actions_listed algorithms outputs [] h = tt
actions_listed algorithms outputs (a ∷ acts) h = (listed outputs a.output h.0.output, actions_listed algorithms outputs acts h.1)

states_listed : (algorithms outputs : List Name) (ss : List StateTree) → AllByRecursion (λ (s : StateTree). AllByRecursion (IsActionTyped algorithms outputs) s.actions) ss
    → AllByRecursion (λ (s : State). AllByRecursion (λ (a : Action). IsListed outputs a.output) s.actions) (map typed_state ss)
states_listed algorithms outputs [] h = tt
states_listed algorithms outputs (s ∷ ss) h = (actions_listed algorithms outputs s.actions h.0, states_listed algorithms outputs ss h.1)

sources_in : (env : List Symbol) (states inputs : List Name) (cs : List TransitionTree) (ds : List Transition) → AreTransitions env states inputs cs ds → AllByRecursion (λ (d : Transition). is_in d.source states ≡ true) ds
sources_in env states inputs cs ds no_transition = tt
sources_in env states inputs cs ds (a_transition {cs = rest} {ds = others} h more) = (ap (λ x. is_in x states) h.source ∙ h.known_source, sources_in env states inputs rest others more)

targets_in : (env : List Symbol) (states inputs : List Name) (cs : List TransitionTree) (ds : List Transition) → AreTransitions env states inputs cs ds → AllByRecursion (λ (d : Transition). is_in d.target states ≡ true) ds
targets_in env states inputs cs ds no_transition = tt
targets_in env states inputs cs ds (a_transition {cs = rest} {ds = others} h more) = (ap (λ x. is_in x states) h.target ∙ h.known_target, targets_in env states inputs rest others more)

events_in : (env : List Symbol) (states inputs : List Name) (cs : List TransitionTree) (ds : List Transition) → AreTransitions env states inputs cs ds → AllByRecursion (λ (d : Transition). IsListed inputs d.event) ds
events_in env states inputs cs ds no_transition = tt
events_in env states inputs cs ds (a_transition {c = c} {cs = rest} {ds = others} h more) = (subst (IsListed inputs) (sym h.event) (listed inputs c.event h.known_event), events_in env states inputs rest others more)

variables_named : (ds : List Declared) → variable_names (map variable_of ds) ≡ names_in ds
variables_named [] = refl
variables_named (d ∷ ds) = ap (λ ns. d.name ∷ ns) (variables_named ds)

words_known : (names : List Name) (ws : List Word) → AreKnown names ws → AllByRecursion (λ (x : Name). is_in x names ≡ true) (texts ws)
words_known names [] h = tt
words_known names (w ∷ ws) h = (h.0, words_known names ws h.1)

carried_known : (names : List Name) (es : List EventTree) → AllByRecursion (λ (e : EventTree). AreKnown names e.carries) es
    → AllByRecursion (λ (e : Event). AllByRecursion (λ (x : Name). is_in x names ≡ true) e.carries) (map typed_event es)
carried_known names [] h = tt
carried_known names (e ∷ es) h = (words_known names e.carries h.0, carried_known names es h.1)

front_new : (before xs ys : List Name) → AreNew before (xs ++ ys) → AreNew before xs
front_new before [] ys h = tt
front_new before (x ∷ xs) ys h = (h.0, front_new (before ++ x ∷ []) xs ys h.1)

events_apart : (a b c d e : List Name) → AreDistinct ((((a ++ b) ++ c) ++ d) ++ e) → AreDistinct (a ++ b)
events_apart a b c d e h = front_new [] (a ++ b) c (front_new [] ((a ++ b) ++ c) d (front_new [] (((a ++ b) ++ c) ++ d) e h))

as_few : {X Y : Type 0} (f : X → Y) (xs : List X) (ys : List Y) (n : ℕ) → ys ≡ map f xs → length xs ≤ n → length ys ≤ n
as_few f xs ys n e l = omega (arith, l, ap length e, length-map xs f)

all_known : (events : List Event) (es : List EventTree) (ds : List Declared) (ns : List Name) → events ≡ map typed_event es → ns ≡ variable_names (map variable_of ds) → AllByRecursion (λ (e : EventTree). AreKnown (names_in ds) e.carries) es
    → AllByRecursion (λ (e : Event). AllByRecursion (λ (x : Name). is_in x ns ≡ true) e.carries) events
all_known events es ds ns p q h =
    subst (λ (xs : List Event). AllByRecursion (λ (e : Event). AllByRecursion (λ (x : Name). is_in x ns ≡ true) e.carries) xs) (sym p)
    (subst (λ (names : List Name). AllByRecursion (λ (e : Event). AllByRecursion (λ (x : Name). is_in x names ≡ true) e.carries) (map typed_event es)) (sym (q ∙ variables_named ds)) (carried_known (names_in ds) es h))

block_closed : (b : BlockTree) (c : ChartTree) (k : Block) → IsBasic b c k → IsClosedBlock k
block_closed b c k h =
    let gives : event_texts b.event_outputs ≡ event_names k.event_outputs = sym (ap (λ f. event_names f.event_outputs) h.face.face ∙ events_named b.event_outputs) in
    let takes : event_texts b.event_inputs ≡ event_names k.event_inputs = sym (ap (λ f. event_names f.event_inputs) h.face.face ∙ events_named b.event_inputs) in
    let states : state_texts c.states ≡ names k.states = sym (ap names h.states ∙ states_named c.states) in
    record {
      actions =
          subst (λ (ss : List State). AllByRecursion (λ (s : State). AllByRecursion (λ (a : Action). IsListed (event_names k.event_outputs) a.output) s.actions) ss) (sym h.states)
          (subst (λ (outputs : List Name). AllByRecursion (λ (s : State). AllByRecursion (λ (a : Action). IsListed outputs a.output) s.actions) (map typed_state c.states)) gives (states_listed (algorithm_texts c.algorithms) (event_texts b.event_outputs) c.states h.actions));
      sources = subst (λ (ns : List Name). AllByRecursion (λ (d : Transition). is_in d.source ns ≡ true) k.transitions) states (sources_in _ _ _ c.transitions k.transitions h.transitions);
      targets = subst (λ (ns : List Name). AllByRecursion (λ (d : Transition). is_in d.target ns ≡ true) k.transitions) states (targets_in _ _ _ c.transitions k.transitions h.transitions);
      events = subst (λ (ns : List Name). AllByRecursion (λ (d : Transition). IsListed ns d.event) k.transitions) takes (events_in _ _ _ c.transitions k.transitions h.transitions);
      events_apart =
          subst (λ (ins : List Name). AreDistinct (ins ++ event_names k.event_outputs)) takes
          (subst (λ (outs : List Name). AreDistinct (event_texts b.event_inputs ++ outs)) gives
          (events_apart (event_texts b.event_inputs) (event_texts b.event_outputs) (names_in h.ins) (names_in h.outs) (names_in h.inner) h.names));
      states_apart = subst AreDistinct states h.state_names;
      few_inputs = as_few typed_event b.event_inputs k.event_inputs most_ports (ap (λ f. f.event_inputs) h.face.face) h.face.few_event_inputs;
      few_outputs = as_few typed_event b.event_outputs k.event_outputs most_ports (ap (λ f. f.event_outputs) h.face.face) h.face.few_event_outputs;
      few_states = as_few typed_state c.states k.states most_states h.states h.few_states;
      takes = all_known k.event_inputs b.event_inputs h.ins (variable_names k.inputs) (ap (λ f. f.event_inputs) h.face.face) (ap (λ f. variable_names f.inputs) h.face.face) h.face.takes;
      gives = all_known k.event_outputs b.event_outputs h.outs (variable_names k.outputs) (ap (λ f. f.event_outputs) h.face.face) (ap (λ f. variable_names f.outputs) h.face.face) h.face.gives;
    }

-- ---- leaves

leaf_closed : (kind : Kind) → OnChart IsClosedBlock kind → IsClosed kind
leaf_closed (Charted block) h = h
leaf_closed (Serviced service) h = tt

pub all_charts_closed : (library : List BlockTree) (source : SourceTree) (system : System) → ElaboratesWith library source system → AllByRecursion (λ (d : Device). AllByRecursion (λ (leaf : Leaf). IsClosed leaf.kind) (leaves d)) system.devices
all_charts_closed library source system h =
    all_weaker (λ (d : Device). AllByRecursion (λ (leaf : Leaf). OnChart IsClosedBlock leaf.kind) (leaves d)) (λ (d : Device). AllByRecursion (λ (leaf : Leaf). IsClosed leaf.kind) (leaves d)) system.devices
    (λ d a. all_weaker (λ (leaf : Leaf). OnChart IsClosedBlock leaf.kind) (λ (leaf : Leaf). IsClosed leaf.kind) (leaves d) (λ leaf o. leaf_closed leaf.kind o) a) (on_charts IsClosedBlock block_closed library source system h)
