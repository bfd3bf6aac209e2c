use Rattle.std.proofs.Common.{◌≡◌, take}
use Rattle.fb_ranges.specs.Views.{spans_of}
use Rattle.fb_find_ranges.specs.Lines.{all_grown, IsAsked}
use Rattle.fb_find_ranges.proofs.Entries.{procedures_in}
use Rattle.fb_find_ranges.proofs.work.all_asked.Given as goal

abbrev pub invariant-loop-index : goal.invariant-loop-index
invariant-loop-index l = (spans_of l.work ≡ spans_of l.ranges) × IsAsked (spans_of l.asked) (all_grown (spans_of l.ranges) (procedures_in (take l.index l.procedures.entries))) (spans_of l.ranges)
