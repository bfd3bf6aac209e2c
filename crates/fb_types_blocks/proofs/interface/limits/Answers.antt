use Rattle.std.proofs.Common.{subst}
use Rattle.std.proofs.lemmas.Result.{err_from_is_err_and}
use Rattle.fb_model.specs.BlockFaults.{IsExcess, excess_event_input, excess_event_output}
use Rattle.fb_types_blocks.proofs.Interfaces.{event_words_are}
use Rattle.fb_types_blocks.proofs.interface.limits.Goals as goal

pub returns-in_err-at_most-clause-refused : goal.returns-in_err-at_most-clause-refused
returns-in_err-at_most-clause-refused c =
    let f = c.in_err-at_most.field-0.0 in
    let p = err_from_is_err_and c.from_residual.result c.from_residual.ensures.1 in
    rw (p.1, p.2) (excess_event_input (subst (λ ws. IsExcess 64 ws f) (event_words_are c.args.source.now.event_inputs.items) (rw c.deref.ensures.value at c.in_err-at_most.ensures.refused)))

pub returns-in_err-at_most-2-clause-refused : goal.returns-in_err-at_most-2-clause-refused
returns-in_err-at_most-2-clause-refused c =
    let f = c.in_err-at_most-2.field-0.0 in
    let p = err_from_is_err_and c.from_residual-in_err-at_most-2.result c.from_residual-in_err-at_most-2.ensures.1 in
    rw (p.1, p.2) (excess_event_output (subst (λ ws. IsExcess 64 ws f) (event_words_are c.args.source.now.event_outputs.items) (rw c.deref-2.ensures.value at c.in_err-at_most-2.ensures.refused)))
