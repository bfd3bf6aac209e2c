use Rattle.std.proofs.Common.{◌≡◌, map, take}
use Rattle.fb_find_ranges.specs.Lines.{first_lined}
use Rattle.fb_find_ranges.specs.Views.{AreKept, AreLinked, lined_in, linked_in, shown}
use Rattle.fb_find_ranges.proofs.first.first_rows.Given as goal

abbrev pub invariant-loop-leaf : goal.invariant-loop-leaf
invariant-loop-leaf l = (map lined_in l.all.items ≡ map (λ y. first_lined (shown y.now)) (take l.leaf-index l.leaves)) × AreKept l.all.items × AreLinked (map linked_in l.all.items)
