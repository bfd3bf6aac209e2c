use Rattle.std.proofs.Common.{◌≡◌, ◌++◌}
use Rattle.fb_types_services.proofs.Ports.{Rest}
use Rattle.fb_types_services.proofs.interface.port.Given as goal

-- it is none of the ports so far
abbrev pub invariant-loop-index : goal.invariant-loop-index
invariant-loop-index l = (l.initial.name ≡ l.initial.prefix ++ l.initial.number) × Rest l.initial.types l.initial.prefix l.initial.name l.index
