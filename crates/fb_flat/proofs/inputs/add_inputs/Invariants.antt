use Rattle.std.proofs.Common.{◌≡◌, ◌++◌, map, drop, string_bytes}
use Rattle.fb_flat.specs.Sources.{input_of, fed_by}
use Rattle.fb_flat.specs.Leaves.{held_by}
use Rattle.fb_flat.proofs.inputs.add_inputs.Given as goal

-- the inputs so far, with those left, are all
abbrev pub invariant-loop-name : goal.invariant-loop-name
invariant-loop-name l = map input_of l.inputs.items ++ fed_by (held_by l.around) (map string_bytes (drop l.name-index l.names)) ≡ fed_by (held_by l.around) (map string_bytes l.names)
