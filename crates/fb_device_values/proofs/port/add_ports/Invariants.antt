use Rattle.std.proofs.Common.{◌≡◌, ◌++◌, map, take, string_bytes}
use Rattle.fb_device_values.specs.Drafts.{cells_in}
use Rattle.fb_device_values.specs.Filling.{port_cell}
use Rattle.fb_device_values.proofs.port.add_ports.Given as goal

abbrev pub invariant-loop-name : goal.invariant-loop-name
invariant-loop-name l = cells_in l.drafts.items ≡ cells_in l.initial.drafts.items ++ map (λ s. port_cell (string_bytes s)) (take l.name-index l.names)
