use Rattle.std.proofs.Common.{◌≡◌, ◌+◌, ◌-◌, ◌<◌, length, ℕ, slice_index, arith, subst, sym, ◌∙◌}
use Rattle.std.proofs.lemmas.List.{length-map, get_or_read}
use Rattle.fb_find_graph.specs.declared.graph.Mark.TheVariants.{Open, Done}
use Rattle.fb_find_graph.specs.Graphs.{row, HasEdge}
use Rattle.fb_find_graph.specs.Searches.{rows_of, mark}
use Rattle.fb_find_graph.proofs.Searching.{edge_read, row_read, mark_read, last_known, see_kept, walk_closes, work_falls}
use Rattle.fb_find_graph.proofs.graph.advance.Goals as goal

pub index-requires-then-seen-len : goal.index-requires-then-seen-len
index-requires-then-seen-len c =
    let edge = edge_read c.args.graph.now c.args.marks.now.items c.args.path.now.items c.args.order.now.items c.args.top c.index-graph-top.result c.in-Open.seen c.index-next.result.now c.requires.searching c.requires.some c.requires.last c.index-graph-top.is (omega (arith, c.if-seen-len.true, c.len.ensures)) c.index-next.ensures in
    let inn : c.index-next.result.now < length (rows_of c.args.graph.now) = c.requires.range c.args.top c.index-next.result.now edge in
    omega (arith, inn, c.requires.searching.sized, c.args.marks.now.ok.0)

pub open_place-requires-clause-known : goal.open_place-requires-clause-known
open_place-requires-clause-known c =
    let edge = edge_read c.args.graph.now c.args.marks.now.items c.args.path.now.items c.args.order.now.items c.args.top c.index-graph-top.result c.in-Open.seen c.index-next.result.now c.requires.searching c.requires.some c.requires.last c.index-graph-top.is (omega (arith, c.if-seen-len.true, c.len.ensures)) c.index-next.ensures in
    let inn : c.index-next.result.now < length (rows_of c.args.graph.now) = c.requires.range c.args.top c.index-next.result.now edge in
    rw length-map at inn

pub open_place-requires-clause-follows : goal.open_place-requires-clause-follows
open_place-requires-clause-follows c =
    let edge = edge_read c.args.graph.now c.args.marks.now.items c.args.path.now.items c.args.order.now.items c.args.top c.index-graph-top.result c.in-Open.seen c.index-next.result.now c.requires.searching c.requires.some c.requires.last c.index-graph-top.is (omega (arith, c.if-seen-len.true, c.len.ensures)) c.index-next.ensures in
    let inn : c.index-next.result.now < length (rows_of c.args.graph.now) = c.requires.range c.args.top c.index-next.result.now edge in
    λ k e. subst (λ (x : ℕ). HasEdge (rows_of c.args.graph.now) x c.index-next.result.now) (sym (c.requires.last k e)) edge

pub returns-in-Open-index-clause-closes : goal.returns-in-Open-index-clause-closes
returns-in-Open-index-clause-closes c =
    let edge = edge_read c.args.graph.now c.args.marks.now.items c.args.path.now.items c.args.order.now.items c.args.top c.index-graph-top.result c.in-Open.seen c.index-next.result.now c.requires.searching c.requires.some c.requires.last c.index-graph-top.is (omega (arith, c.if-seen-len.true, c.len.ensures)) c.index-next.ensures in
    let inn : c.index-next.result.now < length (rows_of c.args.graph.now) = c.requires.range c.args.top c.index-next.result.now edge in
    let at : mark c.args.marks.now.items c.index-next.result.now ≡ Open c.in-Open-index.first c.in-Open-index.field-1 = mark_read c.args.marks.now.items c.index-next.result.now c.index-then-seen-len.result.now (omega (arith, inn, c.requires.searching.sized)) c.index-then-seen-len.ensures ∙ c.in-Open-index.is in
    let o = c.requires.searching.opened c.index-next.result.now c.in-Open-index.first c.in-Open-index.field-1 at in
    let end : length c.args.path.now.items - 1 + 1 ≡ length c.args.path.now.items = omega (arith, c.requires.some) in
    (omega (arith, o.0), walk_closes (rows_of c.args.graph.now) c.args.marks.now.items c.args.path.now.items c.args.order.now.items c.index-next.result.now c.in-Open-index.first c.in-Open-index.field-1 (length c.args.path.now.items - 1) c.requires.searching at end (subst (λ (x : ℕ). HasEdge (rows_of c.args.graph.now) x c.index-next.result.now) (sym (c.requires.last (length c.args.path.now.items - 1) end)) edge))

pub returns-in-Done-clause-searching : goal.returns-in-Done-clause-searching
returns-in-Done-clause-searching c =
    let edge = edge_read c.args.graph.now c.args.marks.now.items c.args.path.now.items c.args.order.now.items c.args.top c.index-graph-top.result c.in-Open.seen c.index-next.result.now c.requires.searching c.requires.some c.requires.last c.index-graph-top.is (omega (arith, c.if-seen-len.true, c.len.ensures)) c.index-next.ensures in
    let inn : c.index-next.result.now < length (rows_of c.args.graph.now) = c.requires.range c.args.top c.index-next.result.now edge in
    let top_in = last_known (rows_of c.args.graph.now) c.args.marks.now.items c.args.path.now.items c.args.order.now.items c.args.top c.requires.searching c.requires.some c.requires.last in
    let was : mark c.args.marks.now.items c.args.top ≡ Open c.in-Open.depth c.in-Open.seen = mark_read c.args.marks.now.items c.args.top c.index.result.now (omega (arith, top_in, c.requires.searching.sized)) c.index.ensures ∙ c.in-Open.is in
    let same = row_read c.args.graph.now c.args.top c.index-graph-top.result (rw length-map at top_in) c.index-graph-top.is in
    let more : c.in-Open.seen < length (row (rows_of c.args.graph.now) c.args.top) = rw same (omega (arith, c.if-seen-len.true, c.len.ensures, c.index-graph-top.result.ok.0)) in
    let at : mark c.args.marks.now.items c.index-next.result.now ≡ Done = mark_read c.args.marks.now.items c.index-next.result.now c.index-then-seen-len.result.now (omega (arith, inn, c.requires.searching.sized)) c.index-then-seen-len.ensures ∙ c.in-Done.is in
    let read : c.index-next.result.now ≡ slice_index c.index-graph-top.result.items c.in-Open.seen = get_or_read c.index-graph-top.result.items c.in-Open.seen c.index-next.result.now (omega (arith, c.if-seen-len.true, c.len.ensures, c.index-graph-top.result.ok.0)) c.index-next.ensures 0 in
    let over : mark c.args.marks.now.items (slice_index (row (rows_of c.args.graph.now) c.args.top) c.in-Open.seen) ≡ Done = rw (same, ← read) at in
    see_kept (rows_of c.args.graph.now) c.args.marks.now.items c.args.path.now.items c.args.order.now.items c.args.top c.in-Open.depth c.in-Open.seen c.requires.searching was more over top_in

pub returns-in-Done-clause-falls : goal.returns-in-Done-clause-falls
returns-in-Done-clause-falls c =
    let top_in = last_known (rows_of c.args.graph.now) c.args.marks.now.items c.args.path.now.items c.args.order.now.items c.args.top c.requires.searching c.requires.some c.requires.last in
    let was : mark c.args.marks.now.items c.args.top ≡ Open c.in-Open.depth c.in-Open.seen = mark_read c.args.marks.now.items c.args.top c.index.result.now (omega (arith, top_in, c.requires.searching.sized)) c.index.ensures ∙ c.in-Open.is in
    let same = row_read c.args.graph.now c.args.top c.index-graph-top.result (rw length-map at top_in) c.index-graph-top.is in
    let more : c.in-Open.seen < length (row (rows_of c.args.graph.now) c.args.top) = rw same (omega (arith, c.if-seen-len.true, c.len.ensures, c.index-graph-top.result.ok.0)) in
    work_falls (rows_of c.args.graph.now) c.args.marks.now.items c.args.top (Open c.in-Open.depth (c.in-Open.seen + 1)) top_in (omega (arith, top_in, c.requires.searching.sized)) (rw was (omega (arith, more)))
