use Rattle.std.proofs.Common.{◌≡◌, drop}
use Rattle.fb_model.specs.TextTyping.{conversion_from}
use Rattle.st_types.proofs.operation.conversion_from.Given as goal

abbrev pub invariant-loop-from : goal.invariant-loop-from
invariant-loop-from l = conversion_from l.name (drop l.from-index l.types) ≡ conversion_from l.name l.types
