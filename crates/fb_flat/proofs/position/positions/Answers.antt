use Rattle.std.proofs.Common.{◌++◌, ◌∷◌, [], take, refl, sym, subst, ap, ◌∙◌, arith}
use Rattle.std.proofs.lemmas.List.{take_more, length-take-le}
use Rattle.fb_flat.specs.Placed.{AreNames}
use Rattle.fb_flat.proofs.Placing.{names_more}
use Rattle.fb_flat.proofs.position.positions.Goals as goal

pub loop-position-init : goal.loop-position-init
loop-position-init c = λ x. rw c.new-positions.ensures.empty refl

pub loop-position-preserved : goal.loop-position-preserved
loop-position-preserved c =
    let xs = c.args.instances.now in
    let k = c.loop-position.position in
    let x = c.index-instances-position.result in
    subst (λ l. AreNames l c.note.new.positions) (sym (take_more xs k x c.loop-position-test.true ∙ ap (λ y. take k xs ++ y ∷ []) (sym c.index-instances-position.is)))
    (names_more (take k xs) x c.loop-position.positions c.note.new.positions k (let l = c.loop-position-test.true in sym (length-take-le k xs (omega (arith, l)))) c.loop-position.invariant c.in_ok-note.ensures)
