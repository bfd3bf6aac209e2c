use Rattle.std.proofs.Common.{◌≡◌, map, drop}
use Rattle.fb_find_ranges.specs.Sameness.{same_all}
use Rattle.fb_find_ranges.specs.Views.{lined_in}
use Rattle.fb_find_ranges.proofs.same.are_same.Given as goal

abbrev pub invariant-loop-index : goal.invariant-loop-index
invariant-loop-index l = same_all (map lined_in (drop l.index l.some)) (map lined_in (drop l.index l.others)) ≡ same_all (map lined_in l.some) (map lined_in l.others)
