use Rattle.std.proofs.Common.{arith}
use Rattle.fb_find_graph.specs.declared.graph.Mark.TheVariants.{Done}
use Rattle.fb_find_graph.specs.Searches.{rows_of}
use Rattle.fb_find_graph.proofs.Searching.{close_kept, work_falls, popped, last_known}
use Rattle.fb_find_graph.proofs.graph.close_place.Goals as goal

pub returns-clause-searching : goal.returns-clause-searching
returns-clause-searching c =
    let e = popped c.args.path.now.items c.pop-last.new.self.items c.pop-last.result c.args.top.place c.pop-last.ensures.items (c.pop-last.ensures.variant.1 (omega (arith, c.requires.some, c.args.path.now.ok.0))) c.requires.last in
    rw c.in_ok-push.ensures.items (close_kept (rows_of c.args.graph.now) c.args.marks.now.items c.pop-last.new.self.items c.args.order.now.items c.args.top.place c.args.top.depth c.args.top.seen (rw e at c.requires.searching) c.requires.was c.requires.full)

pub returns-clause-falls : goal.returns-clause-falls
returns-clause-falls c =
    let n = last_known (rows_of c.args.graph.now) c.args.marks.now.items c.args.path.now.items c.args.order.now.items c.args.top.place c.requires.searching c.requires.some c.requires.last in
    let s = c.requires.searching.short c.args.top.place c.args.top.depth c.args.top.seen c.requires.was in
    work_falls (rows_of c.args.graph.now) c.args.marks.now.items c.args.top.place Done n (omega (arith, n, c.requires.searching.sized)) (rw c.requires.was (omega (arith, s)))
