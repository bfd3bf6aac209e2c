use Rattle.std.proofs.Common.{◌≡◌, drop, map}
use Rattle.std.specs.Prelude.{string_bytes}
use Rattle.fb_device_tables.proofs.Numbered.{moved_by}
use Rattle.fb_device.specs.Finding.{first_named}
use Rattle.fb_device.proofs.names.resource.Given as goal

abbrev pub invariant-loop-at : goal.invariant-loop-at
invariant-loop-at l = moved_by l.at (first_named (map (λ r. string_bytes r.name) (drop l.at l.resources)) l.name) ≡ first_named (map (λ r. string_bytes r.name) l.resources) l.name
