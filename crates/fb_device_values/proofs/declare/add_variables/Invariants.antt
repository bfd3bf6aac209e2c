use Rattle.std.proofs.Common.{◌≡◌, ◌++◌, take}
use Rattle.fb_device_values.specs.Drafts.{cells_in}
use Rattle.fb_device_values.proofs.Adding.{entry_cells}
use Rattle.fb_device_values.proofs.declare.add_variables.Given as goal

abbrev pub invariant-loop-index : goal.invariant-loop-index
invariant-loop-index l = cells_in l.drafts.items ≡ cells_in l.initial.drafts.items ++ entry_cells (take l.index l.variables.entries)
