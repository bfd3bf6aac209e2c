use Rattle.std.proofs.Common.{◌≡◌, ◌≤◌, take, slice_index}
use Rattle.std.specs.List.{sum_by}
use Rattle.fb_find_graph.proofs.system.right_side.Given as goal

abbrev pub invariant-loop-term : goal.invariant-loop-term
invariant-loop-term l = record {
  total : l.total ≡ sum_by (slice_index l.numbers) (take l.term-index l.term-items);
  within : l.total ≤ l.limit;
}
