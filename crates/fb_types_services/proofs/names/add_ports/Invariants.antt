use Rattle.std.proofs.Common.{◌≡◌, ◌<◌, ◌+◌, ◌++◌, map, drop, length, string_bytes}
use Rattle.fb_model.specs.Store.{variable_names}
use Rattle.fb_model.specs.Services.{digits, ports}
use Rattle.fb_types_services.proofs.names.add_ports.Given as goal

-- the names so far, with those that are left, are all
abbrev pub invariant-loop-index : goal.invariant-loop-index
invariant-loop-index l =
    length l.types < 100
    → map string_bytes l.names.items ++ variable_names (ports (λ n. l.prefix ++ digits n) (l.index + 1) (drop l.index l.types)) ≡ map string_bytes l.initial.names.items ++ variable_names (ports (λ n. l.prefix ++ digits n) 1 l.types)
