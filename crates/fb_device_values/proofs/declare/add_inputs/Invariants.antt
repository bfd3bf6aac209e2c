use Rattle.std.proofs.Common.{◌≡◌, ◌++◌, map, take}
use Rattle.fb_device_values.specs.Drafts.{cells_in}
use Rattle.fb_device_values.specs.Filling.{input_cell}
use Rattle.fb_device_values.proofs.declare.add_inputs.Given as goal

abbrev pub invariant-loop-input : goal.invariant-loop-input
invariant-loop-input l = cells_in l.drafts.items ≡ cells_in l.initial.drafts.items ++ map (input_cell l.body) (take l.input-index l.inputs)
