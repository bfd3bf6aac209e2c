use Rattle.std.proofs.Common.{take}
use Rattle.std.specs.List.{AllByRecursion}
use Rattle.fb_check_ranges.specs.Beginning.{NamedVariable, shown, OtherBegins}
use Rattle.fb_check_ranges.proofs.begin.others_begin.Given as goal

abbrev pub invariant-loop-index : goal.invariant-loop-index
invariant-loop-index l = AllByRecursion (λ (e : NamedVariable). OtherBegins l.certificate l.path (shown e)) (take l.index l.variables.entries)
