use Rattle.std.proofs.Common.{◌≡◌, ◌<◌, ◌≤◌, set, map, take, length, slice_index, arith, ap, sym, refl, ◌∙◌, get_or-set_same, get_or-set_other, subst}
use Rattle.std.proofs.lemmas.List.{length-map, length-set, take_all}
use Rattle.std.proofs.lemmas.List.Elements.{All-set}
use Rattle.fb_find_graph.specs.Systems.{inequalities, needs, IsSolving}
use Rattle.fb_find_graph.specs.Views.{inequality_of, system_of}
use Rattle.fb_find_graph.proofs.Solving.{place_read, solve_next, above_limit, all_solved, needs_in_range, row-needs}
use Rattle.fb_find_graph.proofs.system.solve.Goals as goal

pub greatest-requires : goal.greatest-requires
greatest-requires c =
    let p = slice_index c.args.order.now c.loop-place.place-index in
    let h : p < length (system_of c.args.system.now) = rw length-map at (c.requires.order.known c.loop-place.place-index c.loop-place-test.true) in
    let read = place_read c.args.system.now p c.index-system-place.result (rw length-map at h) c.index-system-place.is in
    let row : map inequality_of c.deref.result.now ≡ inequalities (system_of c.args.system.now) p = ap (λ w. map inequality_of w) c.deref.ensures.value ∙ sym read in
    λ q g. let l : q < length (needs (system_of c.args.system.now)) = needs_in_range (system_of c.args.system.now) c.requires.system p q (rw (row-needs (system_of c.args.system.now) p, ← row) g) in rw c.deref-in-loop-place.ensures.value (omega (arith, rw (length-map, length-map) at l, c.loop-place.invariant.sized))

pub returns-in-None : goal.returns-in-None
returns-in-None c =
    let p = slice_index c.args.order.now c.loop-place.place-index in
    let h : p < length (system_of c.args.system.now) = rw length-map at (c.requires.order.known c.loop-place.place-index c.loop-place-test.true) in
    let read = place_read c.args.system.now p c.index-system-place.result (rw length-map at h) c.index-system-place.is in
    let row : map inequality_of c.deref.result.now ≡ inequalities (system_of c.args.system.now) p = ap (λ w. map inequality_of w) c.deref.ensures.value ∙ sym read in
    let e = rw (row, c.deref-in-loop-place.ensures.value) at c.in-None.ensures in
    above_limit (system_of c.args.system.now) c.args.order.now (take c.loop-place.place-index c.args.order.now) (slice_index c.loop-place.numbers.items) p c.args.limit c.requires.order c.loop-place.invariant.solving e

pub loop-place-preserved : goal.loop-place-preserved
loop-place-preserved c =
    let p = slice_index c.args.order.now c.loop-place.place-index in
    let h : p < length (system_of c.args.system.now) = rw length-map at (c.requires.order.known c.loop-place.place-index c.loop-place-test.true) in
    let read = place_read c.args.system.now p c.index-system-place.result (rw length-map at h) c.index-system-place.is in
    let row : map inequality_of c.deref.result.now ≡ inequalities (system_of c.args.system.now) p = ap (λ w. map inequality_of w) c.deref.ensures.value ∙ sym read in
    let wide : p < length c.loop-place.numbers.items = omega (arith, rw length-map at h, c.loop-place.invariant.sized) in
    record {
      sized = length-set c.loop-place.numbers.items p c.in-Some.number ∙ c.loop-place.invariant.sized;
      within = All-set (λ n. n ≤ c.args.limit) c.loop-place.numbers.items p c.in-Some.number c.in-Some.ensures.1 c.loop-place.invariant.within;
      solving = solve_next (system_of c.args.system.now) c.args.order.now (slice_index c.loop-place.numbers.items) (slice_index (set c.loop-place.numbers.items p c.in-Some.number)) c.loop-place.place-index p c.in-Some.number c.requires.order c.loop-place-test.true refl c.loop-place.invariant.solving (rw (row, c.deref-in-loop-place.ensures.value) at c.in-Some.ensures.0) (get_or-set_same c.loop-place.numbers.items p c.in-Some.number 0 wide) (λ q n. get_or-set_other c.loop-place.numbers.items p q c.in-Some.number 0 n);
    }

pub returns : goal.returns
returns c =
    let e : take c.loop-place.place-index c.args.order.now ≡ c.args.order.now = take_all c.loop-place.place-index c.args.order.now c.loop-place-test.false in
    (rw length-map c.loop-place.invariant.sized, c.loop-place.invariant.within, all_solved (system_of c.args.system.now) c.args.order.now (slice_index c.loop-place.numbers.items) (λ p h. c.requires.order.every p (rw length-map h)) (subst (λ d. IsSolving (system_of c.args.system.now) d (slice_index c.loop-place.numbers.items)) e c.loop-place.invariant.solving))
