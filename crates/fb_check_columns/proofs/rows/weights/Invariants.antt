use Rattle.std.proofs.Common.{◌≡◌, map, take}
use Rattle.fb_check_columns.specs.Reckoning.{weight_of, table_names}
use Rattle.fb_check_columns.proofs.rows.weights.Given as goal

-- the weights so far are those of the names so far
abbrev pub invariant-loop-index : goal.invariant-loop-index
invariant-loop-index l = l.weights.items ≡ map (weight_of l.column l.certificate l.path) (take l.index (table_names l.inputs))
