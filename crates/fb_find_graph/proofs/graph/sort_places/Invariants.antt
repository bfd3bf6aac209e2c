use Rattle.std.proofs.Common.{ℕ, ◌≡◌, ◌≢◌, ◌+◌, ◌<◌, [], length}
use Rattle.fb_find_graph.specs.declared.graph.Mark.TheVariants.{New}
use Rattle.fb_find_graph.specs.Searches.{rows_of, mark, work, IsSearching}
use Rattle.fb_find_graph.proofs.graph.sort_places.Given as goal

abbrev pub invariant-loop : goal.invariant-loop
invariant-loop l = record {
  sized : length l.marks.items ≡ l.index;
  fresh : (p : ℕ) → mark l.marks.items p ≡ New;
}

abbrev pub invariant-loop-root : goal.invariant-loop-root
invariant-loop-root l = record {
  searching : IsSearching (rows_of l.graph) l.marks.items l.path.items l.order.items;
  begun : (p : ℕ) → p < l.root → mark l.marks.items p ≢ New;
  empty : l.path.items ≡ [];
}

abbrev pub invariant-loop-top : goal.invariant-loop-top
invariant-loop-top l = record {
  searching : IsSearching (rows_of l.graph) l.marks.items l.path.items l.order.items;
  begun : (p : ℕ) → p < l.root + 1 → mark l.marks.items p ≢ New;
}

abbrev pub decreases-loop-top : goal.decreases-loop-top
decreases-loop-top l = work (rows_of l.graph) l.marks.items
