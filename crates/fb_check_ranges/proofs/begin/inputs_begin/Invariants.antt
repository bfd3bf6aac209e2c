use Rattle.std.proofs.Common.{take}
use Rattle.std.specs.List.{AllByRecursion}
use Rattle.fb_flat.specs.Tables.{source_at}
use Rattle.fb_check_ranges.specs.Beginning.{NamedVariable, shown, InputBegins}
use Rattle.fb_check_ranges.proofs.begin.inputs_begin.Given as goal

abbrev pub invariant-loop-index : goal.invariant-loop-index
invariant-loop-index l = AllByRecursion (λ (e : NamedVariable). InputBegins l.certificate l.path (source_at l.inputs) (shown e)) (take l.index l.variables.entries)
