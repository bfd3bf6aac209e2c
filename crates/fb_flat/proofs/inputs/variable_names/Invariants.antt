use Rattle.std.proofs.Common.{◌≡◌, map, take, string_bytes}
use Rattle.fb_model.specs.Store.{variable_names}
use Rattle.fb_types_blocks.specs.Views.{variables_of}
use Rattle.fb_flat.proofs.inputs.variable_names.Given as goal

abbrev pub invariant-loop-index : goal.invariant-loop-index
invariant-loop-index l = map string_bytes l.names.items ≡ take l.index (variable_names (variables_of l.variables))
