use Rattle.std.proofs.Common.{◌≡◌, drop}
use Rattle.std.specs.Str.{bytes_eq}
use Rattle.fb_ranges.proofs.table.is_name.Given as goal

abbrev pub invariant-loop-at : goal.invariant-loop-at
invariant-loop-at l = bytes_eq l.one l.other ≡ bytes_eq (drop l.at l.one) (drop l.at l.other)
