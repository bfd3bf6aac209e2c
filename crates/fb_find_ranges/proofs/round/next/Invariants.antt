use Rattle.std.proofs.Common.{◌≡◌, map, take}
use Rattle.fb_find_ranges.specs.Lines.{next_lined}
use Rattle.fb_find_ranges.specs.Views.{AreKept, lined_in, linked_in, tabled_in}
use Rattle.fb_find_ranges.proofs.round.next.Given as goal

abbrev pub invariant-loop-leaf : goal.invariant-loop-leaf
invariant-loop-leaf l = (map lined_in l.all.items ≡ map (λ s. next_lined l.round (map tabled_in l.leaves) (tabled_in s)) (take l.leaf-index l.leaves)) × AreKept l.all.items × (map linked_in l.all.items ≡ map linked_in (take l.leaf-index l.leaves))
