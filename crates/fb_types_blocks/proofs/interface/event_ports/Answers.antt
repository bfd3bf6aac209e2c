use Rattle.std.proofs.Common.{subst}
use Rattle.std.proofs.lemmas.Result.{err_from_is_err_and}
use Rattle.fb_model.specs.BlockTyping.{words_in}
use Rattle.fb_tree.specs.Files as tree
use Rattle.fb_model.specs.BlockFaults.{event_words}
use Rattle.fb_model.specs.BlockFaults.{Among, IsEventFault, no_memory_for_face, with_no_input, with_no_output}
use Rattle.fb_types_blocks.proofs.Refused.{either_of}
use Rattle.fb_types_blocks.proofs.Interfaces.{four_parts, events_apart, table_names}
use Rattle.fb_types_blocks.proofs.interface.event_ports.Goals as goal

pub events-requires : goal.events-requires
events-requires c =
    let b = tree.block_of c.args.source.now in
    rw c.deref.ensures.value (events_apart b.event_inputs (four_parts (event_words b.event_inputs) (event_words b.event_outputs) (words_in b.inputs) (words_in b.outputs) c.requires.distinct).0)

pub events-requires-2 : goal.events-requires-2
events-requires-2 c =
    let b = tree.block_of c.args.source.now in
    rw c.deref-2.ensures.value (events_apart b.event_outputs (four_parts (event_words b.event_inputs) (event_words b.event_outputs) (words_in b.inputs) (words_in b.outputs) c.requires.distinct).1)

pub returns-in_err-event_inputs-clause-refused : goal.returns-in_err-event_inputs-clause-refused
returns-in_err-event_inputs-clause-refused c =
    let f = c.in_err-event_inputs.field-0.0 in
    let b = tree.block_of c.args.source.now in
    let p = err_from_is_err_and c.from_residual.result c.from_residual.ensures.1 in
    let names = table_names c.args.inputs.now b.inputs c.requires.inputs in
    rw (p.1, p.2) (either_of no_memory_for_face with_no_input (subst (λ ns. Among (IsEventFault ns) b.event_inputs f) names (rw c.deref.ensures.value at c.in_err-event_inputs.ensures.refused)))

pub returns-in_err-event_outputs-clause-refused : goal.returns-in_err-event_outputs-clause-refused
returns-in_err-event_outputs-clause-refused c =
    let f = c.in_err-event_outputs.field-0.0 in
    let b = tree.block_of c.args.source.now in
    let p = err_from_is_err_and c.from_residual-in_err-event_outputs.result c.from_residual-in_err-event_outputs.ensures.1 in
    let names = table_names c.args.outputs.now b.outputs c.requires.outputs in
    rw (p.1, p.2) (either_of no_memory_for_face with_no_output (subst (λ ns. Among (IsEventFault ns) b.event_outputs f) names (rw c.deref-2.ensures.value at c.in_err-event_outputs.ensures.refused)))

pub returns-clause-takes : goal.returns-clause-takes
returns-clause-takes c = rw c.deref.ensures.value at c.in_ok-event_inputs.ensures.known

pub returns-clause-gives : goal.returns-clause-gives
returns-clause-gives c = rw c.deref-2.ensures.value at c.in_ok-event_outputs.ensures.known

pub returns-clause-event_inputs : goal.returns-clause-event_inputs
returns-clause-event_inputs c = rw c.deref.ensures.value at c.in_ok-event_inputs.ensures.value

pub returns-clause-event_outputs : goal.returns-clause-event_outputs
returns-clause-event_outputs c = rw c.deref-2.ensures.value at c.in_ok-event_outputs.ensures.value
