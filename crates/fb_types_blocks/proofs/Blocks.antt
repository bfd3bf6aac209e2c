-- Parts of a basic block.
use Rattle.std.specs.List.{AllByRecursion}
use Rattle.std.proofs.lemmas.List.{length-map}
use Rattle.std.proofs.Common.{◌≡◌, ℕ, ◌≤◌, length, List, [], ◌∷◌, ◌++◌, Result, Ok, Err, IfOk, IfErr, map, refl, sym, ap, subst, ◌∙◌, string_bytes, append_assoc}
use Rattle.std.specs.declared.string.String.{String}
use Rattle.std.specs.declared.vec.Vec.{Vec}
use Rattle.std.specs.declared.alloc.Global.{Global}
use Rattle.indexmap.specs.IndexMap.{IndexMap}
use Rattle.fb_model.specs.Names.{Name}
use Rattle.fb_model.specs.Trees.{StateTree}
use Rattle.fb_model.specs.Declarations as decl
use Rattle.fb_model.specs.System as book
use Rattle.fb_model.specs.TextTyping.{Symbol}
use Rattle.fb_model.specs.Typing.{AreDistinct, texts, state_texts, typed_state}
use Rattle.fb_model.specs.BlockTyping.{Declared, AreDeclared, AreTransitions, AreProcedures, no_procedure, a_procedure, IsActionTyped, IsFace, IsBasic, scope, face_names, words_in, names_in, event_texts, algorithm_texts, typed_event, variable_of, face_of as book_face}
use Rattle.st_types.specs.declared.whole.Algo.{Algo}
use Rattle.st_types.specs.CommandViews.{commands_of}
use Rattle.fb_faults.specs.declared.typing.TypeFault.{TypeFault}
use Rattle.fb_types_blocks.specs.declared.typed.Action.{Action}
use Rattle.fb_types_blocks.specs.declared.typed.Face.{Face}
use Rattle.fb_types_blocks.specs.declared.typed.Block.{Block}
use Rattle.fb_types_blocks.specs.Answers.{names_in_map, Finds, IsChart, IsTypedBlock}
use Rattle.fb_model.specs.BlockFaults.{own_words}
use Rattle.fb_types_blocks.specs.Views.{declared_in, face_of, transition_of, event_of, events_of, action_of, states_of, procedures_of, block_of}
use Rattle.fb_model.specs.BlockFaults.{IsChartFault, in_actions, in_transitions, in_algorithms, IsScope, IsBasicFault, no_memory_for_block, faulty_action, faulty_transition, faulty_algorithm}
use Rattle.fb_types_blocks.proofs.Refused.{either_of}
use Rattle.fb_types_blocks.proofs.Lists.{map_map, texts_append, new_split, new_second}
use Rattle.fb_types_blocks.proofs.FaultlessBlocks.{all_names_are}
use Rattle.fb_types_blocks.proofs.Interfaces.{block_missed, block_only}

-- names that are all different are so in the interface and among the internal variables
pub two_parts : (b : decl.BlockTree) (c : decl.ChartTree) → AreDistinct (texts (own_words b ++ words_in c.internals)) → AreDistinct (texts (own_words b)) × AreDistinct (texts (words_in c.internals))
two_parts b c h =
    let k : AreDistinct (texts (own_words b) ++ texts (words_in c.internals)) = subst AreDistinct (texts_append (own_words b) (words_in c.internals)) h in
    ((new_split [] (texts (own_words b)) (texts (words_in c.internals)) k).0, new_second (texts (own_words b)) (texts (words_in c.internals)) k)

pub all_names : (b : decl.BlockTree) (c : decl.ChartTree) (ins outs inner : List Declared) → AreDeclared b.inputs ins → AreDeclared b.outputs outs → AreDeclared c.internals inner → AreDistinct (texts (own_words b ++ words_in c.internals)) → AreDistinct (face_names b ins outs ++ names_in inner)
all_names b c ins outs inner i o n h = subst AreDistinct (all_names_are b c ins outs inner i o n) h

pub last_three : (xs ys zs ns : List Name) → AreDistinct (((xs ++ ys) ++ zs) ++ ns) → AreDistinct ((ys ++ zs) ++ ns)
last_three xs ys zs ns h = new_second xs ((ys ++ zs) ++ ns) (subst AreDistinct (ap (λ r. r ++ ns) (append_assoc xs ys zs) ∙ append_assoc xs (ys ++ zs) ns) h)

-- ---- names of tables

pub event_table_names : {S : Type 0} (m : IndexMap (String Global) (Vec (String Global) Global) S) (es : List decl.EventTree) → events_of m ≡ map typed_event es → names_in_map m ≡ event_texts es
event_table_names m es h = sym (map_map (λ e. e.name) (λ p. event_of (string_bytes p.0) p.1.items) m.entries) ∙ ap (map (λ e. e.name)) h ∙ map_map (λ e. e.name) typed_event es

pub state_table_names : {S : Type 0} (m : IndexMap (String Global) (Vec Action Global) S) (ss : List StateTree) → states_of m ≡ map typed_state ss → names_in_map m ≡ state_texts ss
state_table_names m ss h = sym (map_map (λ s. s.name) (λ p. record { name = string_bytes p.0; actions = map action_of p.1.items }) m.entries) ∙ ap (map (λ s. s.name)) h ∙ map_map (λ s. s.name) typed_state ss

procedure_names : (env : List Symbol) (fs : List decl.AlgorithmTree) (ps : List book.Procedure) → AreProcedures env fs ps → map (λ p. p.name) ps ≡ algorithm_texts fs
procedure_names env [] [] no_procedure = refl
procedure_names env [] (p ∷ ps) x = elim x [ ]
procedure_names env (f ∷ fs) ps (a_procedure {p = p} {ps = qs} n x r) = ap (λ i. i ∷ map (λ p. p.name) qs) n ∙ ap (λ i. f.name.text ∷ i) (procedure_names env fs qs r)

pub procedure_table_names : {S : Type 0} (m : IndexMap (String Global) Algo S) (env : List Symbol) (fs : List decl.AlgorithmTree) → AreProcedures env fs (procedures_of m) → names_in_map m ≡ algorithm_texts fs
procedure_table_names m env fs h = sym (map_map (λ p. p.name) (λ p. record { name = string_bytes p.0; algorithm = commands_of p.1.statements.items }) m.entries) ∙ procedure_names env fs (procedures_of m) h

-- ---- what is well typed is found, unless memory ran out

pub basic_only : (b : decl.BlockTree) (c : decl.ChartTree) (r : Result Block TypeFault) → IfOk r (IsTypedBlock b c) → IfErr r (IsBasicFault b c) → (k : book.Block) → IsBasic b c k → Finds block_of r k
basic_only b c (Ok x) found refused k h = block_only b c x found k h
basic_only b c (Err f) found refused k h = block_missed b c f refused k h

-- ---- a block by its parts

pub scope_apart : (b : decl.BlockTree) (c : decl.ChartTree) (ins outs inner : List Declared) (f : book.Face) → IsFace b ins outs f → AreDeclared c.internals inner → AreDistinct (texts (own_words b ++ words_in c.internals)) → AreDistinct ((names_in ins ++ names_in outs) ++ names_in inner)
scope_apart b c ins outs inner f face n h = last_three (event_texts b.event_inputs ++ event_texts b.event_outputs) (names_in ins) (names_in outs) (names_in inner) (all_names b c ins outs inner face.inputs face.outputs n h)

pub same_length : {X Y : Type 0} (f : X → Y) (xs : List X) (n : ℕ) → length xs ≤ n → length (map f xs) ≤ n
same_length f xs n h = rw (length-map xs f) h

input_names : (b : decl.BlockTree) (x : Face) → IsFace b (declared_in x.inputs) (declared_in x.outputs) (face_of x) → names_in_map x.event_inputs ≡ event_texts b.event_inputs
input_names b x h = event_table_names x.event_inputs b.event_inputs (ap (λ g. g.event_inputs) h.face)

output_names : (b : decl.BlockTree) (x : Face) → IsFace b (declared_in x.inputs) (declared_in x.outputs) (face_of x) → names_in_map x.event_outputs ≡ event_texts b.event_outputs
output_names b x h = event_table_names x.event_outputs b.event_outputs (ap (λ g. g.event_outputs) h.face)

-- ---- charts

abbrev pub AreActions : List Name → List Name → List StateTree → Type 0
AreActions algorithms outputs ss = AllByRecursion (λ s. AllByRecursion (IsActionTyped algorithms outputs) s.actions) ss

pub a_chart : (env : List Symbol) (inputs outputs algorithms states : List Name) (c : decl.ChartTree) (ss : List book.State) (ts : List book.Transition) (ps : List book.Procedure)
    → algorithms ≡ algorithm_texts c.algorithms → states ≡ state_texts c.states → AreActions algorithms outputs c.states → ss ≡ map typed_state c.states → AreTransitions env states inputs c.transitions ts → AreProcedures env c.algorithms ps → IsChart env inputs outputs c ss ts ps
a_chart env inputs outputs algorithms states c ss ts ps a s actions are transitions procedures =
    record {
      actions = subst (λ ns. AreActions ns outputs c.states) a actions;
      states = are;
      transitions = subst (λ ns. AreTransitions env ns inputs c.transitions ts) s transitions;
      procedures = procedures;
    }

-- a chart of a block, by the names of the block's events
pub chart_among : (env scope : List Symbol) (inputs outputs ins outs : List Name) (c : decl.ChartTree) (ss : List book.State) (ts : List book.Transition) (ps : List book.Procedure)
    → env ≡ scope → inputs ≡ ins → outputs ≡ outs → IsChart env inputs outputs c ss ts ps → IsChart scope ins outs c ss ts ps
chart_among env scope inputs outputs ins outs c ss ts ps e i o h = subst (λ x. IsChart x ins outs c ss ts ps) e (subst (λ x. IsChart env x outs c ss ts ps) i (subst (λ x. IsChart env inputs x c ss ts ps) o h))

pub fault_among : (env : List Symbol) (inputs outputs ins outs : List Name) (c : decl.ChartTree) (f : TypeFault) → inputs ≡ ins → outputs ≡ outs → IsChartFault env inputs outputs c f → IsChartFault env ins outs c f
fault_among env inputs outputs ins outs c f i o h = subst (λ x. IsChartFault env x outs c f) i (subst (λ x. IsChartFault env inputs x c f) o h)

-- ---- a block by its interface, its internal variables and its chart

pub basic_typed : (b : decl.BlockTree) (c : decl.ChartTree) (k : book.Block) (ins outs inner : List Declared)
    → IsFace b ins outs (book_face k) → AreDeclared c.internals inner → k.internals ≡ map variable_of inner → AreDistinct (texts (own_words b ++ words_in c.internals))
    → AreDistinct (state_texts c.states) → AreDistinct (algorithm_texts c.algorithms) → length c.states ≤ 256 → length c.transitions ≤ 1024 → length c.algorithms ≤ 256
    → IsChart (scope ins outs inner) (event_texts b.event_inputs) (event_texts b.event_outputs) c k.states k.transitions k.procedures → IsBasic b c k
basic_typed b c k ins outs inner face internals are names state_names algorithm_names few_states few_transitions few_algorithms chart =
    record {
      ins = ins;
      outs = outs;
      inner = inner;
      face = face;
      internals = internals;
      internals_are = are;
      names = all_names b c ins outs inner face.inputs face.outputs internals names;
      state_names = state_names;
      algorithm_names = algorithm_names;
      few_states = few_states;
      few_transitions = few_transitions;
      few_algorithms = few_algorithms;
      actions = chart.actions;
      states = chart.states;
      transitions = chart.transitions;
      procedures = chart.procedures;
    }

pub typed_block : (b : decl.BlockTree) (c : decl.ChartTree) (x : Block) (env : List Symbol)
    → IsFace b (declared_in x.face.inputs) (declared_in x.face.outputs) (face_of x.face) → AreDeclared c.internals (declared_in x.internals) → AreDistinct (texts (own_words b ++ words_in c.internals))
    → AreDistinct (state_texts c.states) → AreDistinct (algorithm_texts c.algorithms) → length c.states ≤ 256 → length c.transitions ≤ 1024 → length c.algorithms ≤ 256
    → env ≡ scope (declared_in x.face.inputs) (declared_in x.face.outputs) (declared_in x.internals)
    → IsChart env (names_in_map x.face.event_inputs) (names_in_map x.face.event_outputs) c (states_of x.states) (map transition_of x.transitions.items) (procedures_of x.procedures) → IsTypedBlock b c x
unfolding basic_typed
typed_block b c x env face internals names state_names algorithm_names few_states few_transitions few_algorithms env_is chart =
    let ins = declared_in x.face.inputs in
    let outs = declared_in x.face.outputs in
    let inner = declared_in x.internals in
    record {
      typed =
          basic_typed b c (block_of x) ins outs inner face internals refl names state_names algorithm_names few_states few_transitions few_algorithms
          (chart_among env (scope ins outs inner) (names_in_map x.face.event_inputs) (names_in_map x.face.event_outputs) (event_texts b.event_inputs) (event_texts b.event_outputs) c (states_of x.states) (map transition_of x.transitions.items) (procedures_of x.procedures) env_is (input_names b x.face face) (output_names b x.face face) chart);
      inputs_are = refl;
      outputs_are = refl;
      internals_are = refl;
    }

-- ---- faults of a chart

pub in_scope : (b : decl.BlockTree) (c : decl.ChartTree) (x : Face) (inner : List Declared) (env : List Symbol) → IsFace b (declared_in x.inputs) (declared_in x.outputs) (face_of x) → AreDeclared c.internals inner → env ≡ scope (declared_in x.inputs) (declared_in x.outputs) inner → IsScope b c env
in_scope b c x inner env face internals env_is = record { ins = declared_in x.inputs; outs = declared_in x.outputs; inner = inner; inputs = face.inputs; outputs = face.outputs; internals = internals; scope_is = env_is }

chart_fault : (b : decl.BlockTree) (c : decl.ChartTree) (env : List Symbol) (f : TypeFault) → IsScope b c env → IsChartFault env (event_texts b.event_inputs) (event_texts b.event_outputs) c f → IsBasicFault b c f
chart_fault b c env f seen (in_actions h) = either_of no_memory_for_block faulty_action h
chart_fault b c env f seen (in_transitions h) = either_of no_memory_for_block (faulty_transition env seen) h
chart_fault b c env f seen (in_algorithms h) = either_of no_memory_for_block (faulty_algorithm env seen) h

pub in_chart : (b : decl.BlockTree) (c : decl.ChartTree) (x : Face) (inner : List Declared) (env : List Symbol) (f : TypeFault) → IsFace b (declared_in x.inputs) (declared_in x.outputs) (face_of x) → AreDeclared c.internals inner → env ≡ scope (declared_in x.inputs) (declared_in x.outputs) inner
    → IsChartFault env (names_in_map x.event_inputs) (names_in_map x.event_outputs) c f → IsBasicFault b c f
in_chart b c x inner env f face internals env_is h =
    chart_fault b c env f (in_scope b c x inner env face internals env_is) (fault_among env (names_in_map x.event_inputs) (names_in_map x.event_outputs) (event_texts b.event_inputs) (event_texts b.event_outputs) c f (input_names b x face) (output_names b x face) h)
