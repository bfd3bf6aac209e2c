use Rattle.std.proofs.Common.{sym, subst}
use Rattle.std.proofs.lemmas.Result.{err_from_is_err_and, IfErr-weaker}
use Rattle.fb_tree.specs.Files as tree
use Rattle.fb_model.specs.BlockFaults.{IsExcess, excess_state, excess_transition, excess_algorithm}
use Rattle.fb_types_blocks.proofs.Lists.{map_map}
use Rattle.fb_types_blocks.proofs.block.limits.Goals as goal

pub returns-in_err-at_most-clause-refused : goal.returns-in_err-at_most-clause-refused
returns-in_err-at_most-clause-refused c =
    let xs = c.args.chart.now.states.items in
    let f = c.in_err-at_most.field-0.0 in
    let p = err_from_is_err_and c.from_residual.result c.from_residual.ensures.1 in
    rw (p.1, p.2) (excess_state (subst (λ ws. IsExcess 256 ws f) (sym (map_map (λ s. s.name) tree.state_of xs)) (rw c.deref.ensures.value at c.in_err-at_most.ensures.refused)))

pub returns-in_err-at_most-2-clause-refused : goal.returns-in_err-at_most-2-clause-refused
returns-in_err-at_most-2-clause-refused c =
    let xs = c.args.chart.now.transitions.items in
    let f = c.in_err-at_most-2.field-0.0 in
    let p = err_from_is_err_and c.from_residual-in_err-at_most-2.result c.from_residual-in_err-at_most-2.ensures.1 in
    rw (p.1, p.2) (excess_transition (subst (λ ws. IsExcess 1024 ws f) (sym (map_map (λ t. t.source) tree.transition_of xs)) (rw c.deref-2.ensures.value at c.in_err-at_most-2.ensures.refused)))

pub returns-clause-refused : goal.returns-clause-refused
returns-clause-refused c =
    let xs = c.args.chart.now.algorithms.items in
    IfErr-weaker c.at_most-3.result _ _ (λ f h. excess_algorithm (subst (λ ws. IsExcess 256 ws f) (sym (map_map (λ a. a.name) tree.algorithm_of xs)) (rw c.deref-3.ensures.value at h))) c.at_most-3.ensures.refused
