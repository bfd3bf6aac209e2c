use Rattle.std.proofs.Common.{◌≡◌, length}
use Rattle.fb_find_graph.specs.Views.{system_of}
use Rattle.fb_find_demands.proofs.Grouped.{HasNone}
use Rattle.fb_find_demands.proofs.grouping.empty.Given as goal

-- so many places are there, without inequalities
abbrev pub invariant-loop : goal.invariant-loop
invariant-loop l = HasNone (system_of l.places.items) × (length l.places.items ≡ l.counter)
