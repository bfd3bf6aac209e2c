-- What is well typed has no fault: basic blocks. Memory can run out nevertheless.
use Rattle.std.proofs.Common.{◌≡◌, List, [], ◌∷◌, ◌++◌, Option, Some, None, map, sym, ap, subst, ◌∙◌, arith}
use Rattle.std.specs.List.{Any}
use Rattle.std.proofs.lemmas.List.{length-map}
use Rattle.fb_model.specs.Names.{Name}
use Rattle.fb_model.specs.Trees.{ActionTree}
use Rattle.fb_model.specs.Declarations.{GuardTree, TransitionTree, AlgorithmTree, ChartTree, BlockTree}
use Rattle.fb_model.specs.TypedText.{Term}
use Rattle.fb_model.specs.TextTyping.{Symbol}
use Rattle.fb_model.specs.TextFaults.{IsNoCondition, SomeMisdone}
use Rattle.fb_model.specs.System as book
use Rattle.fb_model.specs.Typing.{AreDistinct, texts, state_texts}
use Rattle.fb_model.specs.BlockTyping.{Declared, AreDeclared, IsActionTyped, IsGuard, a_guard, IsTransition, AreTransitions, a_transition, AreProcedures, a_procedure, IsBasic, face_names, face_of, names_in, words_in, event_texts, algorithm_texts, scope}
use Rattle.st_types.proofs.Faultless.{condition_faultless, commands_faultless}
use Rattle.fb_faults.specs.declared.typing.TypeFault.{TypeFault}
use Rattle.fb_faults.specs.declared.typing.TypeFault.TheVariants.{OutOfMemory}
use Rattle.fb_model.specs.BlockFaults.{own_words}
use Rattle.fb_model.specs.BlockFaults.{IsActionFault, no_memory_for_action, unknown_algorithm, unknown_output, IsGuardFault, IsEndsFault, unknown_source, unknown_target, unknown_event, IsTransitionFault, no_memory_for_transition, faulty_ends, faulty_guard, IsAlgorithmFault, IsChartExcess, excess_state, excess_transition, excess_algorithm, IsScope, IsBasicFault, no_memory_for_block, faulty_face, excess, repeated_variable, repeated_state, repeated_algorithm, faulty_internal, faulty_action, faulty_transition, faulty_algorithm}
use Rattle.fb_types_blocks.proofs.Lists.{map_map, texts_append, new_split}
use Rattle.fb_types_blocks.proofs.Refused.{either_of}
use Rattle.fb_types_blocks.proofs.Variables.{names_declared}
use Rattle.fb_types_blocks.proofs.Faultless.{any_nil, any_cons, any_all, no_repetition, no_excess, no_unknown, no_unknown_if_some, no_text_fault, no_variables_fault, own_names_are, no_face_fault}
use Rattle.fb_types_blocks.proofs.Single.{one_declared}

no_action_fault : (algorithms outputs : List Name) (a : ActionTree) (f : TypeFault) → IsActionFault algorithms outputs a f → IsActionTyped algorithms outputs a → f ≡ OutOfMemory
no_action_fault algorithms outputs a f (no_memory_for_action e) x = e
no_action_fault algorithms outputs a f (unknown_algorithm h) x = no_unknown_if_some algorithms a.algorithm f h x.algorithm
no_action_fault algorithms outputs a f (unknown_output h) x = no_unknown_if_some outputs a.output f h x.output

no_guard_fault : (env : List Symbol) (o : Option GuardTree) (x : Option Term) (f : TypeFault) → IsGuard env o x → IsGuardFault env o f → f ≡ OutOfMemory
no_guard_fault env None x f g h = absurd h
no_guard_fault env (Some k) x f (a_guard {x = y} g) h = no_text_fault (IsNoCondition env k.at k.condition) f h (λ w m. condition_faultless env k.at k.condition y w g m)

no_ends_fault : (env : List Symbol) (states inputs : List Name) (c : TransitionTree) (d : book.Transition) (f : TypeFault) → IsTransition env states inputs c d → IsEndsFault states inputs c f → f ≡ OutOfMemory
no_ends_fault env states inputs c d f x (unknown_source h) = no_unknown states c.source f h x.known_source
no_ends_fault env states inputs c d f x (unknown_target h) = no_unknown states c.target f h x.known_target
no_ends_fault env states inputs c d f x (unknown_event h) = no_unknown_if_some inputs c.event f h x.known_event

no_transition_fault : (env : List Symbol) (states inputs : List Name) (c : TransitionTree) (d : book.Transition) (f : TypeFault) → IsTransition env states inputs c d → IsTransitionFault env states inputs c f → f ≡ OutOfMemory
no_transition_fault env states inputs c d f x (no_memory_for_transition e) = e
no_transition_fault env states inputs c d f x (faulty_ends h) = no_ends_fault env states inputs c d f x h
no_transition_fault env states inputs c d f x (faulty_guard h) = no_guard_fault env c.guard d.guard f x.guard h

no_transitions_fault : (env : List Symbol) (states inputs : List Name) (cs : List TransitionTree) (ds : List book.Transition) (f : TypeFault) → AreTransitions env states inputs cs ds → Any (λ c. IsTransitionFault env states inputs c f) cs → f ≡ OutOfMemory
no_transitions_fault env states inputs [] ds f x a = absurd (any_nil a)
no_transitions_fault env states inputs (c ∷ cs) ds f (a_transition {d = d} {ds = es} x xs) a = either_of (no_transition_fault env states inputs c d f x) (no_transitions_fault env states inputs cs es f xs) (any_cons c cs a)

no_algorithms_fault : (env : List Symbol) (fs : List AlgorithmTree) (ps : List book.Procedure) (f : TypeFault) → AreProcedures env fs ps → Any (λ a. IsAlgorithmFault env a f) fs → f ≡ OutOfMemory
no_algorithms_fault env [] ps f x a = absurd (any_nil a)
no_algorithms_fault env (b ∷ bs) ps f (a_procedure {p = p} {ps = qs} n x xs) a =
    either_of (λ h. no_text_fault (SomeMisdone env [] b.body) f h (λ w m. commands_faultless env [] b.body p.algorithm w x m)) (no_algorithms_fault env bs qs f xs) (any_cons b bs a)

no_chart_excess : (b : BlockTree) (c : ChartTree) (k : book.Block) (f : TypeFault) → IsBasic b c k → IsChartExcess c f → f ≡ OutOfMemory
no_chart_excess b c k f x (excess_state h) = no_excess 256 (map (λ s. s.name) c.states) f h (let e = length-map c.states (λ s. s.name) in let i = x.few_states in omega (arith, e, i))
no_chart_excess b c k f x (excess_transition h) = no_excess 1024 (map (λ s. s.source) c.transitions) f h (let e = length-map c.transitions (λ s. s.source) in let i = x.few_transitions in omega (arith, e, i))
no_chart_excess b c k f x (excess_algorithm h) = no_excess 256 (map (λ a. a.name) c.algorithms) f h (let e = length-map c.algorithms (λ a. a.name) in let i = x.few_algorithms in omega (arith, e, i))

-- the names of a block's interface and of its internal variables, as words and as texts
pub all_names_are : (b : BlockTree) (c : ChartTree) (ins outs inner : List Declared) → AreDeclared b.inputs ins → AreDeclared b.outputs outs → AreDeclared c.internals inner → texts (own_words b ++ words_in c.internals) ≡ face_names b ins outs ++ names_in inner
all_names_are b c ins outs inner i o n =
    texts_append (own_words b) (words_in c.internals) ∙ ap (λ ns. ns ++ texts (words_in c.internals)) (own_names_are b ins outs i o) ∙ ap (λ ns. face_names b ins outs ++ ns) (sym (names_declared c.internals inner n))

-- there is one scope only
same_scope : (b : BlockTree) (c : ChartTree) (k : book.Block) (env : List Symbol) (x : IsBasic b c k) → IsScope b c env → env ≡ scope x.ins x.outs x.inner
same_scope b c k env x s =
    s.scope_is
    ∙ ap (λ ds. scope ds s.outs s.inner) (one_declared b.inputs s.ins x.ins s.inputs x.face.inputs)
    ∙ ap (λ ds. scope x.ins ds s.inner) (one_declared b.outputs s.outs x.outs s.outputs x.face.outputs)
    ∙ ap (λ ds. scope x.ins x.outs ds) (one_declared c.internals s.inner x.inner s.internals x.internals)

pub no_block_fault : (b : BlockTree) (c : ChartTree) (k : book.Block) (f : TypeFault) → IsBasic b c k → IsBasicFault b c f → f ≡ OutOfMemory
no_block_fault b c k f x (no_memory_for_block e) = e
no_block_fault b c k f x (faulty_face h) = no_face_fault b x.ins x.outs (face_of k) f x.face (new_split [] (face_names b x.ins x.outs) (names_in x.inner) x.names).0 h
no_block_fault b c k f x (excess h) = no_chart_excess b c k f x h
no_block_fault b c k f x (repeated_variable h) =
    no_repetition [] (own_words b ++ words_in c.internals) f h (subst AreDistinct (sym (all_names_are b c x.ins x.outs x.inner x.face.inputs x.face.outputs x.internals)) x.names)
no_block_fault b c k f x (repeated_state h) = no_repetition [] (map (λ s. s.name) c.states) f h (subst AreDistinct (sym (map_map (λ w. w.text) (λ s. s.name) c.states)) x.state_names)
no_block_fault b c k f x (repeated_algorithm h) = no_repetition [] (map (λ a. a.name) c.algorithms) f h (subst AreDistinct (sym (map_map (λ w. w.text) (λ a. a.name) c.algorithms)) x.algorithm_names)
no_block_fault b c k f x (faulty_internal h) = absurd (no_variables_fault c.internals x.inner f x.internals h)
no_block_fault b c k f x (faulty_action h) = any_all (λ s p q. any_all (λ a. no_action_fault (algorithm_texts c.algorithms) (event_texts b.event_outputs) a f) s.actions p q) c.states h x.actions
no_block_fault b c k f x (faulty_transition env s h) = no_transitions_fault (scope x.ins x.outs x.inner) (state_texts c.states) (event_texts b.event_inputs) c.transitions k.transitions f x.transitions (subst (λ e. Any (λ y. IsTransitionFault e (state_texts c.states) (event_texts b.event_inputs) y f) c.transitions) (same_scope b c k env x s) h)
no_block_fault b c k f x (faulty_algorithm env s h) = no_algorithms_fault (scope x.ins x.outs x.inner) c.algorithms k.procedures f x.procedures (subst (λ e. Any (λ a. IsAlgorithmFault e a f) c.algorithms) (same_scope b c k env x s) h)
