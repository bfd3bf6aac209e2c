use Rattle.std.proofs.Common.{◌≡◌, drop}
use Rattle.st_types.specs.Elaborating.{common}
use Rattle.st_types.specs.Views.{operands_of}
use Rattle.st_types.proofs.operand.common.Given as goal

abbrev pub invariant-loop-operand : goal.invariant-loop-operand
invariant-loop-operand l = common (operands_of l.operands) (operands_of (drop l.operand-index l.operands)) ≡ common (operands_of l.operands) (operands_of l.operands)
