use Rattle.std.proofs.Common.{◌≡◌, map, drop}
use Rattle.fb_find_ranges.specs.Sameness.{same_lines}
use Rattle.fb_find_ranges.specs.Views.{line_of}
use Rattle.fb_find_ranges.proofs.same.same_rows.Given as goal

abbrev pub invariant-loop-index : goal.invariant-loop-index
invariant-loop-index l = same_lines (map line_of (drop l.index l.some)) (map line_of (drop l.index l.others)) ≡ same_lines (map line_of l.some) (map line_of l.others)
