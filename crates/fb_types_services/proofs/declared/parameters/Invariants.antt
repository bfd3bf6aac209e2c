use Rattle.std.proofs.Common.{take}
use Rattle.fb_types_services.specs.Answers.{IsNamed}
use Rattle.fb_types_services.proofs.declared.parameters.Given as goal

-- those so far
abbrev pub invariant-loop-parameter : goal.invariant-loop-parameter
invariant-loop-parameter l = IsNamed l.initial.name (take l.parameter-index l.initial.all) l.found
