use Rattle.std.proofs.Common.{suc, map, take, drop, sym, subst}
use Rattle.std.proofs.lemmas.List.{take_all}
use Rattle.std.proofs.lemmas.Result.{err_from_is_err_and}
use Rattle.fb_types_blocks.proofs.Lists.{mapped_more}
use Rattle.fb_types_blocks.proofs.Refused.{parts_at}
use Rattle.fb_types.specs.Uses.{use_of}
use Rattle.fb_types.specs.Shapes.{shapes_of}
use Rattle.fb_types.proofs.Shaped.{ShapesSo, shapes_begun, shapes_more, shapes_done, shapes_wrong}
use Rattle.fb_types.proofs.shapes.each_alike.Goals as goal

pub loop-used-init : goal.loop-used-init
loop-used-init c = rw c.new-shapes.ensures.empty shapes_begun

pub loop-used-preserved : goal.loop-used-preserved
loop-used-preserved c =
    let xs = c.args.uses.now in
    let i = c.loop-used.used-index in
    let x = c.used-item.result in
    subst (ShapesSo (shapes_of c.note.new.shapes)) (sym (mapped_more use_of xs i x c.loop-used-test.true c.used-item.is))
    (shapes_more (shapes_of c.loop-used.shapes) (shapes_of c.note.new.shapes) (map use_of (take i xs)) (use_of x) c.loop-used.invariant c.in_ok-note.ensures.noted)

pub returns-in_err-note-clause-refused : goal.returns-in_err-note-clause-refused
returns-in_err-note-clause-refused c =
    let p = err_from_is_err_and c.from_residual.result c.from_residual.ensures.1 in
    let xs = c.args.uses.now in
    let i = c.loop-used.used-index in
    let x = c.used-item.result in
    rw (p.1, p.2) (shapes_wrong (shapes_of c.loop-used.shapes) (map use_of xs) (map use_of (take i xs)) (map use_of (drop (suc i) xs)) (use_of x) c.in_err-note.field-0.0 c.loop-used.invariant (parts_at use_of xs i x c.loop-used-test.true c.used-item.is) c.in_err-note.ensures.refused)

pub returns-clause-alike : goal.returns-clause-alike
returns-clause-alike c =
    let xs = c.args.uses.now in
    shapes_done (shapes_of c.loop-used.shapes) (map use_of xs) (subst (λ l. ShapesSo (shapes_of c.loop-used.shapes) (map use_of l)) (take_all c.loop-used.used-index xs c.loop-used-test.false) c.loop-used.invariant)
