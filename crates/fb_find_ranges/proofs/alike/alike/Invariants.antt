use Rattle.std.proofs.Common.{map}
use Rattle.fb_flat.specs.Leaves.{kind_of}
use Rattle.fb_find_ranges.specs.Views.{linked_in, IsKind}
use Rattle.fb_find_ranges.proofs.alike.alike.Given as goal

abbrev pub invariant-loop : goal.invariant-loop
invariant-loop l = IsKind (map linked_in l.before) l.at (kind_of l.leaf.body)
