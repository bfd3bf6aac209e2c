use Rattle.std.proofs.Common.{◌≡◌, map, subst}
use Rattle.std.proofs.lemmas.Result.{err_from_is_err_and}
use Rattle.fb_model.specs.BlockTyping.{AreProcedures, AreTransitions}
use Rattle.fb_model.specs.Typing.{typed_state}
use Rattle.fb_tree.specs.Files as tree
use Rattle.st_types.specs.Views.{entries}
use Rattle.fb_types_blocks.specs.Answers.{names_in_map}
use Rattle.fb_model.specs.BlockFaults.{Among, IsStateFault, IsTransitionFault, IsAlgorithmFault, in_actions, in_transitions, in_algorithms}
use Rattle.fb_types_blocks.specs.Views.{states_of, transition_of, procedures_of}
use Rattle.fb_types_blocks.proofs.Blocks.{AreActions, a_chart, procedure_table_names, state_table_names}
use Rattle.fb_types_blocks.proofs.chart.control_chart.Goals as goal

pub returns-in_err-procedures-clause-refused : goal.returns-in_err-procedures-clause-refused
returns-in_err-procedures-clause-refused c =
    let f = c.in_err-procedures.field-0.0 in
    let p = err_from_is_err_and c.from_residual.result c.from_residual.ensures.1 in
    rw (p.1, p.2) (in_algorithms (subst (λ xs. Among (IsAlgorithmFault (entries c.args.scope.now)) (map tree.algorithm_of xs) f) c.deref.ensures.value c.in_err-procedures.ensures.refused))

pub returns-in_err-states-clause-refused : goal.returns-in_err-states-clause-refused
returns-in_err-states-clause-refused c =
    let f = c.in_err-states.field-0.0 in
    let m = c.in_ok-procedures.procedures in
    let fs = map tree.algorithm_of c.args.source.now.algorithms.items in
    let ss = map tree.state_of c.args.source.now.states.items in
    let env = entries c.args.scope.now in
    let outputs = names_in_map c.args.face.now.event_outputs in
    let procedures : AreProcedures env fs (procedures_of m) = subst (λ xs. AreProcedures env (map tree.algorithm_of xs) (procedures_of m)) c.deref.ensures.value c.in_ok-procedures.ensures.found in
    let p = err_from_is_err_and c.from_residual-in_err-states.result c.from_residual-in_err-states.ensures.1 in
    rw (p.1, p.2) (in_actions (subst (λ ns. Among (IsStateFault ns outputs) ss f) (procedure_table_names m env fs procedures) (subst (λ xs. Among (IsStateFault (names_in_map m) outputs) (map tree.state_of xs) f) c.deref-2.ensures.value c.in_err-states.ensures.refused)))

pub returns-in_err-transitions-clause-refused : goal.returns-in_err-transitions-clause-refused
returns-in_err-transitions-clause-refused c =
    let f = c.in_err-transitions.field-0.0 in
    let m = c.in_ok-states.states in
    let ss = map tree.state_of c.args.source.now.states.items in
    let ts = map tree.transition_of c.args.source.now.transitions.items in
    let env = entries c.args.scope.now in
    let inputs = names_in_map c.args.face.now.event_inputs in
    let states : states_of m ≡ map typed_state ss = subst (λ xs. states_of m ≡ map typed_state (map tree.state_of xs)) c.deref-2.ensures.value c.in_ok-states.ensures.value in
    let p = err_from_is_err_and c.from_residual-in_err-transitions.result c.from_residual-in_err-transitions.ensures.1 in
    rw (p.1, p.2) (in_transitions (subst (λ ns. Among (IsTransitionFault env ns inputs) ts f) (state_table_names m ss states) (subst (λ xs. Among (IsTransitionFault env (names_in_map m) inputs) (map tree.transition_of xs) f) c.deref-3.ensures.value c.in_err-transitions.ensures.refused)))

pub returns-clause-found : goal.returns-clause-found
returns-clause-found c =
    let m = c.in_ok-procedures.procedures in
    let n = c.in_ok-states.states in
    let made = map transition_of c.in_ok-transitions.transitions.items in
    let fs = map tree.algorithm_of c.args.source.now.algorithms.items in
    let ss = map tree.state_of c.args.source.now.states.items in
    let ts = map tree.transition_of c.args.source.now.transitions.items in
    let env = entries c.args.scope.now in
    let inputs = names_in_map c.args.face.now.event_inputs in
    let outputs = names_in_map c.args.face.now.event_outputs in
    let procedures : AreProcedures env fs (procedures_of m) = subst (λ xs. AreProcedures env (map tree.algorithm_of xs) (procedures_of m)) c.deref.ensures.value c.in_ok-procedures.ensures.found in
    let actions : AreActions (names_in_map m) outputs ss = subst (λ xs. AreActions (names_in_map m) outputs (map tree.state_of xs)) c.deref-2.ensures.value c.in_ok-states.ensures.typed in
    let states : states_of n ≡ map typed_state ss = subst (λ xs. states_of n ≡ map typed_state (map tree.state_of xs)) c.deref-2.ensures.value c.in_ok-states.ensures.value in
    let transitions : AreTransitions env (names_in_map n) inputs ts made = subst (λ xs. AreTransitions env (names_in_map n) inputs (map tree.transition_of xs) made) c.deref-3.ensures.value c.in_ok-transitions.ensures.found in
    a_chart env inputs outputs (names_in_map m) (names_in_map n) (tree.chart_of c.args.source.now) (states_of n) made (procedures_of m) (procedure_table_names m env fs procedures) (state_table_names n ss states) actions states transitions procedures
