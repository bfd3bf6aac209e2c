use Rattle.std.proofs.Common.{◌≡◌, drop, map}
use Rattle.std.specs.Prelude.{string_bytes}
use Rattle.fb_device_tables.proofs.Numbered.{moved_by}
use Rattle.fb_device.specs.Finding.{first_named}
use Rattle.fb_device.proofs.loading.device_named.Given as goal

abbrev pub invariant-loop-at : goal.invariant-loop-at
invariant-loop-at l = moved_by l.at (first_named (map (λ d. string_bytes d.name) (drop l.at l.devices)) l.name) ≡ first_named (map (λ d. string_bytes d.name) l.devices) l.name
