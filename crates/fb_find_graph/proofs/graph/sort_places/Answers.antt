use Rattle.std.proofs.Common.{◌≡◌, ◌<◌, length, ℕ, [], arith, subst, sym, ap, ◌∙◌, ◌++◌, ◌∷◌, List, drop, below_more}
use Rattle.fb_find_graph.specs.Graphs.{IsClosed}
use Rattle.std.proofs.lemmas.List.{length-map}
use Rattle.fb_find_graph.specs.Searches.{IsRotated, rows_of, IsLast, IsSearching}
use Rattle.fb_find_graph.proofs.Searching.{walk_rotates, all_ordered, none_from, mark_read}
use Rattle.fb_find_graph.proofs.graph.sort_places.Goals as goal
use Rattle.fb_find_graph.proofs.graph.sort_places.Goals.{in-New+in_ok-open_place+in_default-last_place, in_default}

pub loop-root-preserved : goal.loop-root-preserved
loop-root-preserved c = elim c.match-index.branch [
  | in-New+in_ok-open_place+in_default-last_place w ↦ record {
    searching = rw (w.marks-is, w.path-is, w.order-is) w.loop-top.invariant.searching;
    begun = rw w.marks-is w.loop-top.invariant.begun;
    empty = rw w.path-is (sym w.deref-in-loop-top.ensures.value ∙ none_from w.last_place.result (w.deref-in-loop-top.result.now ≡ []) (λ top. (0 < length w.deref-in-loop-top.result.now) × IsLast w.deref-in-loop-top.result.now top) w.in_default-last_place.not-Some w.last_place.ensures);
  }
  | in_default w ↦ record {
    searching = rw (w.marks-is, w.path-is, w.order-is) c.loop-root.invariant.searching;
    begun = rw w.marks-is (below_more _ _ c.loop-root.invariant.begun (λ e. w.in_default.not-New (sym (mark_read c.loop-root.marks.items c.loop-root.root c.index.result.now (omega (arith, c.loop-root-test.true, c.loop-root.invariant.searching.sized, length-map c.args.graph.now (λ v. v.items))) c.index.ensures) ∙ e)));
    empty = rw w.path-is c.loop-root.invariant.empty;
  }
]

pub returns : goal.returns
returns c = all_ordered (rows_of c.args.graph.now) c.loop-root.marks.items c.loop-root.order.items (subst (λ p. IsSearching (rows_of c.args.graph.now) c.loop-root.marks.items p c.loop-root.order.items) c.loop-root.invariant.empty c.loop-root.invariant.searching) (λ p h. c.loop-root.invariant.begun p (omega (arith, rw length-map at h, c.loop-root-test.false)))

pub returns-in-Some-2 : goal.returns-in-Some-2
returns-in-Some-2 c =
    let k = rw c.in-Some-2.is at c.in_ok-first.ensures.closes in
    let e : c.in_ok-walk.walk.items ≡ drop c.in-Some-2.first c.advance.new.path.items ++ c.in-Some-2.next ∷ [] = c.in_ok-walk.ensures ∙ ap (λ p. drop c.in-Some-2.first p ++ c.in-Some-2.next ∷ []) c.deref-in-Some-2.ensures.value in
    let w : IsClosed (rows_of c.args.graph.now) c.in_ok-walk.walk.items = subst (λ (p : List ℕ). IsClosed (rows_of c.args.graph.now) p) (sym e) k.1 in
    walk_rotates (rows_of c.args.graph.now) c.in_ok-walk.walk.items c.in_ok-rotate_walk.field-0 w (subst (λ (p : List ℕ). IsRotated p c.in_ok-rotate_walk.field-0) c.deref-in-Some-2-2.ensures.value c.in_ok-rotate_walk.ensures)
