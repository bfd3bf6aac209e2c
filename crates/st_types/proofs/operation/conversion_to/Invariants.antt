use Rattle.std.proofs.Common.{◌≡◌, drop}
use Rattle.fb_model.specs.TextTyping.{conversion_to}
use Rattle.st_types.proofs.operation.conversion_to.Given as goal

abbrev pub invariant-loop-to : goal.invariant-loop-to
invariant-loop-to l = conversion_to l.name l.from (drop l.to-index l.types) ≡ conversion_to l.name l.from l.types
