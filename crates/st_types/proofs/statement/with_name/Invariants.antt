use Rattle.std.proofs.Common.{◌≡◌, ◌++◌, drop}
use Rattle.st_types.specs.CommandViews.{busy_of}
use Rattle.st_types.proofs.statement.with_name.Given as goal

abbrev pub invariant-loop-counted : goal.invariant-loop-counted
invariant-loop-counted l = busy_of l.names.items ++ busy_of (drop l.counted-index l.busy) ≡ busy_of l.busy
