use Rattle.std.proofs.Common.{◌≡◌, ◌<◌, length, arith, ◌∙◌}
use Rattle.std.proofs.lemmas.List.{length-map}
use Rattle.fb_find_graph.specs.declared.graph.Mark.TheVariants.{Open}
use Rattle.fb_find_graph.specs.Searches.{rows_of}
use Rattle.fb_find_graph.proofs.Searching.{open_kept, work_falls}
use Rattle.fb_find_graph.proofs.graph.open_place.Goals as goal

pub returns-clause-searching : goal.returns-clause-searching
returns-clause-searching c =
    let d : c.len-depth.result ≡ length c.args.path.now.items = c.len-depth.ensures ∙ c.args.path.now.ok.0 in
    rw (c.in_ok-push.ensures.items, d) (open_kept (rows_of c.args.graph.now) c.args.marks.now.items c.args.path.now.items c.args.order.now c.args.next (rw length-map c.requires.known) c.requires.searching c.requires.fresh c.requires.follows)

pub returns-clause-falls : goal.returns-clause-falls
returns-clause-falls c =
    let n : c.args.next < length (rows_of c.args.graph.now) = rw length-map c.requires.known in
    work_falls (rows_of c.args.graph.now) c.args.marks.now.items c.args.next (Open c.len-depth.result 0) n (omega (arith, n, c.requires.searching.sized)) (rw c.requires.fresh (omega arith))
