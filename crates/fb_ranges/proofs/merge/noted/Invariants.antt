use Rattle.std.proofs.Common.{take}
use Rattle.fb_ranges.specs.Views.{spans_of}
use Rattle.fb_ranges.proofs.Noted.{IsNoted}
use Rattle.fb_ranges.proofs.merge.noted.Given as goal

abbrev pub invariant-loop-name : goal.invariant-loop-name
invariant-loop-name l = IsNoted (take l.name-index l.names) (spans_of l.ranges) l.noted.items
