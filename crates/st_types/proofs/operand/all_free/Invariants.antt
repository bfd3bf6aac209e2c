use Rattle.std.proofs.Common.{◌≡◌, drop}
use Rattle.std.specs.List.{list_all}
use Rattle.fb_model.specs.TextTyping.{is_free}
use Rattle.st_types.specs.Views.{operands_of}
use Rattle.st_types.proofs.operand.all_free.Given as goal

abbrev pub invariant-loop-operand : goal.invariant-loop-operand
invariant-loop-operand l = list_all is_free (operands_of (drop l.operand-index l.operands)) ≡ list_all is_free (operands_of l.operands)
