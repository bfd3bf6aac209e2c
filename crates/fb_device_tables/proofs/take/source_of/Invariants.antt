use Rattle.std.proofs.Common.{◌≡◌, drop}
use Rattle.fb_device_tables.specs.Filling.{source_named}
use Rattle.fb_device_tables.proofs.take.source_of.Given as goal

abbrev pub invariant-loop-input : goal.invariant-loop-input
invariant-loop-input l = source_named (drop l.input-index l.inputs) l.name ≡ source_named l.inputs l.name
