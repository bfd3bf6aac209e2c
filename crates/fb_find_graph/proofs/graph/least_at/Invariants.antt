use Rattle.std.proofs.Common.{ℕ, ◌<◌, ◌≤◌, length, slice_index}
use Rattle.fb_find_graph.proofs.graph.least_at.Given as goal

abbrev pub invariant-loop-k : goal.invariant-loop-k
invariant-loop-k l = record {
  within : l.at < length l.places;
  least : (j : ℕ) → j < l.k → slice_index l.places l.at ≤ slice_index l.places j;
}
