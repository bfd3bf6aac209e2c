use Rattle.std.proofs.Common.{map, take}
use Rattle.fb_check_columns.specs.Reckoning.{load_of, AreSums}
use Rattle.fb_check_columns.proofs.weights.loads.Given as goal

abbrev pub invariant-loop-output : goal.invariant-loop-output
invariant-loop-output l = AreSums l.loads.items (map (λ o. load_of l.column l.certificate o.targets.items) (take l.output-index l.outputs))
