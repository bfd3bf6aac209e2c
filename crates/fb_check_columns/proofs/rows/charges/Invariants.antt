use Rattle.std.proofs.Common.{◌≡◌, map, take}
use Rattle.fb_check_columns.specs.Reckoning.{charge_of, table_names}
use Rattle.fb_check_columns.proofs.rows.charges.Given as goal

-- the charges so far are those of the names so far
abbrev pub invariant-loop-index : goal.invariant-loop-index
invariant-loop-index l = l.charges.items ≡ map (charge_of l.column l.certificate l.path) (take l.index (table_names l.states))
