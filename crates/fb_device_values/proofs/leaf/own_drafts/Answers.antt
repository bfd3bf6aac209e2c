use Rattle.std.proofs.Common.{ap}
use Rattle.fb_device_values.specs.Drafts.{cells_in}
use Rattle.fb_device_values.specs.Filling.{input_cells, output_cells, internal_cells}
use Rattle.fb_device_values.proofs.Adding.{added_all}
use Rattle.fb_device_values.proofs.leaf.own_drafts.Goals as goal

pub returns : goal.returns
returns c =
    λ small.
    let leaf = c.args.leaf.now in
    added_all (input_cells leaf) (output_cells leaf.body) (internal_cells leaf.body) (cells_in c.new-drafts.result.items) (cells_in c.add_inputs.new.drafts.items) (cells_in c.add_given.new.drafts.items) (cells_in c.add_internals.new.drafts.items)
    (ap cells_in c.new-drafts.ensures.items) (rw c.deref.ensures.value at c.in_ok-add_inputs.ensures) (c.in_ok-add_given.ensures small) c.in_ok-add_internals.ensures
