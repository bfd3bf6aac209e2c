use Rattle.std.proofs.Common.{[], sym, subst}
use Rattle.std.proofs.lemmas.Result.{err_from_is_err_and}
use Rattle.fb_model.specs.Typing.{AreDistinct}
use Rattle.fb_tree.specs.Files as tree
use Rattle.fb_model.specs.BlockFaults.{IsRepetition, repeated_state, repeated_algorithm}
use Rattle.fb_types_blocks.proofs.Lists.{map_map}
use Rattle.fb_types_blocks.proofs.block.apart.Goals as goal

pub returns-in_err-table-clause-refused : goal.returns-in_err-table-clause-refused
returns-in_err-table-clause-refused c =
    let f = c.in_err-table.field-0.0 in
    let xs = c.args.chart.now.states.items in
    let p = err_from_is_err_and c.from_residual-in_err-table.result c.from_residual-in_err-table.ensures.1 in
    rw (p.1, p.2) (repeated_state (subst (λ ws. IsRepetition [] ws f) (sym (map_map (λ s. s.name) tree.state_of xs)) (rw c.deref.ensures.value at c.in_err-table.ensures.refused)))

pub returns-in_err-table-2-clause-refused : goal.returns-in_err-table-2-clause-refused
returns-in_err-table-2-clause-refused c =
    let f = c.in_err-table-2.field-0.0 in
    let xs = c.args.chart.now.algorithms.items in
    let p = err_from_is_err_and c.from_residual-in_err-table-2.result c.from_residual-in_err-table-2.ensures.1 in
    rw (p.1, p.2) (repeated_algorithm (subst (λ ws. IsRepetition [] ws f) (sym (map_map (λ a. a.name) tree.algorithm_of xs)) (rw c.deref-2.ensures.value at c.in_err-table-2.ensures.refused)))

pub returns-clause-states : goal.returns-clause-states
returns-clause-states c = subst AreDistinct (sym (map_map (λ s. s.name.text) tree.state_of c.args.chart.now.states.items)) (rw c.deref.ensures.value at c.in_ok-table.ensures.distinct)

pub returns-clause-algorithms : goal.returns-clause-algorithms
returns-clause-algorithms c = subst AreDistinct (sym (map_map (λ a. a.name.text) tree.algorithm_of c.args.chart.now.algorithms.items)) (rw c.deref-2.ensures.value at c.in_ok-table-2.ensures.distinct)
