use Rattle.fb_device_values.specs.Drafts.{cells_in}
use Rattle.fb_device_values.specs.Filling.{input_cell}
use Rattle.fb_device_values.proofs.Adding.{added_next}
use Rattle.fb_device_values.proofs.declare.add_inputs.Goals as goal

pub loop-input-preserved : goal.loop-input-preserved
loop-input-preserved c =
    added_next (input_cell c.args.body.now) c.args.inputs.now c.loop-input.input-index c.input-item.result (cells_in c.args.drafts.now.items) (cells_in c.loop-input.drafts.items) (cells_in c.add_input.new.drafts.items)
    c.loop-input-test.true c.input-item.is c.loop-input.invariant c.in_ok-add_input.ensures
