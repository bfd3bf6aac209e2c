use Rattle.std.proofs.Common.{map, drop}
use Rattle.fb_types.specs.Uses.{use_of}
use Rattle.fb_types.proofs.Numbered.{NumbersSo}
use Rattle.fb_types.proofs.numbers.each_differs.Given as goal

-- what holds of the services that are left holds of all
abbrev pub invariant-loop-used : goal.invariant-loop-used
invariant-loop-used l = NumbersSo l.initial.kind (map use_of l.initial.uses) l.numbers.keys (map use_of (drop l.used-index l.initial.uses))
