use Rattle.fb_model.specs.BlockTyping.{words_in}
use Rattle.fb_tree.specs.Files as tree
use Rattle.fb_model.specs.BlockFaults.{event_words}
use Rattle.fb_types_blocks.proofs.Interfaces.{four_parts}
use Rattle.fb_types_blocks.proofs.interface.data_ports.Goals as goal

pub variables-requires : goal.variables-requires
variables-requires c =
    let b = tree.block_of c.args.source.now in
    rw c.deref.ensures.value (four_parts (event_words b.event_inputs) (event_words b.event_outputs) (words_in b.inputs) (words_in b.outputs) c.requires).2

pub variables-requires-2 : goal.variables-requires-2
variables-requires-2 c =
    let b = tree.block_of c.args.source.now in
    rw c.deref-2.ensures.value (four_parts (event_words b.event_inputs) (event_words b.event_outputs) (words_in b.inputs) (words_in b.outputs) c.requires).3

pub returns-clause-inputs : goal.returns-clause-inputs
returns-clause-inputs c = rw c.deref.ensures.value at c.in_ok-inputs.ensures.found

pub returns-clause-outputs : goal.returns-clause-outputs
returns-clause-outputs c = rw c.deref-2.ensures.value at c.in_ok-outputs.ensures.found
