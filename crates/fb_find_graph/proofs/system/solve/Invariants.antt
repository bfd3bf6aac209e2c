use Rattle.std.proofs.Common.{◌≡◌, ◌≤◌, length, take, slice_index}
use Rattle.std.specs.List.{All}
use Rattle.fb_find_graph.specs.Systems.{IsSolving}
use Rattle.fb_find_graph.specs.Views.{system_of}
use Rattle.fb_find_graph.proofs.system.solve.Given as goal

abbrev pub invariant-loop-place : goal.invariant-loop-place
invariant-loop-place l = record {
  sized : length l.numbers.items ≡ length l.system;
  within : All (λ n. n ≤ l.limit) l.numbers.items;
  solving : IsSolving (system_of l.system) (take l.place-index l.order) (slice_index l.numbers.items);
}
