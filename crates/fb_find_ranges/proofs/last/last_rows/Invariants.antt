use Rattle.std.proofs.Common.{◌≡◌, ◌+◌, ◌-◌, List, map}
use Rattle.std.specs.List.{AllByRecursion}
use Rattle.fb_model.specs.Wires as wires
use Rattle.fb_model_laws.specs.Leaves.{AreApart, IsFed}
use Rattle.fb_flat.specs.Tables.{AreLeaves}
use Rattle.fb_find_ranges.specs.Views.{AreKept, AreLinked, leaf_in, lined_in, linked_in, shown}
use Rattle.fb_find_ranges.proofs.Falling.{open_in}
use Rattle.fb_find_ranges.proofs.Ending.{Stands}
use Rattle.fb_find_ranges.proofs.last.last_rows.Given as goal

abbrev pub invariant-loop-rows : goal.invariant-loop-rows
invariant-loop-rows l = record {
  stands : (bs : List wires.Leaf) → AreLeaves (map (λ y. y.now) l.leaves) bs → AreApart bs → AllByRecursion (IsFed bs) bs → Stands bs l.round (map lined_in l.rows.items);
  kept : AreKept l.rows.items;
  links : AreLinked (map linked_in l.rows.items);
  leaves : map leaf_in l.rows.items ≡ map (λ y. shown y.now) l.leaves;
}

abbrev pub decreases-loop-rows : goal.decreases-loop-rows
decreases-loop-rows l = 65 - l.round + open_in (map lined_in l.rows.items)
