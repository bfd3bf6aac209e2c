use Rattle.std.proofs.Common.{◌≡◌, ◌++◌, length}
use Rattle.fb_find_laws.specs.Nodes.{AreGrouped}
use Rattle.fb_find_graph.specs.Views.{system_of}
use Rattle.fb_find_demands.specs.Rights.{rights_of}
use Rattle.fb_find_demands.proofs.grouping.group.Given as goal

-- those so far are at their places
abbrev pub invariant-loop-right : goal.invariant-loop-right
invariant-loop-right l = AreGrouped l.count (rights_of l.yielded) (system_of l.places.items) × (length l.places.items ≡ l.count) × (l.yielded ++ l.right-iterator.rest.items ≡ l.fn.rights.items)
