use Rattle.std.proofs.Common.{◌≡◌, map, take}
use Rattle.fb_find_ranges.specs.Views.{line_of}
use Rattle.fb_find_ranges.proofs.alike.alike_rows.Given as goal

abbrev pub invariant-loop-at : goal.invariant-loop-at
invariant-loop-at l = map line_of (take l.at l.some) ≡ map line_of (take l.at l.others)
