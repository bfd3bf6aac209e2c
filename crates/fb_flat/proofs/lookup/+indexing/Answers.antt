use Rattle.std.proofs.Common.{◌≡◌, ◌+◌, ◌++◌, ◌∷◌, [], take, sym, ap, subst, ◌∙◌}
use Rattle.std.proofs.lemmas.List.{take_more, take_all}
use Rattle.fb_flat.specs.Indexes.{AreInside}
use Rattle.fb_flat.proofs.Indexing.{inside_more}
use Rattle.fb_flat.proofs.lookup.+indexing.Goals as goal

pub index-loop-instance-preserved : goal.index-loop-instance-preserved
index-loop-instance-preserved t c =
    let xs = c.deref-instance-items.result.now in
    let k = c.loop-instance.instance-index in
    let x = c.instance-item.result in
    let more : take (k + 1) xs ≡ take k xs ++ x ∷ [] = take_more xs k x c.loop-instance-test.true ∙ ap (λ y. take k xs ++ y ∷ []) (sym c.instance-item.is) in
    subst (λ l. AreInside l c.push.new.self.items) (sym more)
    (subst (AreInside (take k xs ++ x ∷ [])) (sym c.in_ok-push-in-Ok.ensures.items) (inside_more (take k xs) c.loop-instance.inside.items x c.in-Ok.one c.loop-instance.invariant c.in-Ok.ensures))

pub index-with_inside-requires : goal.index-with_inside-requires
index-with_inside-requires t c =
    subst (λ l. AreInside l c.loop-instance.inside.items) (take_all c.loop-instance.instance-index c.deref-instance-items.result.now c.loop-instance-test.false ∙ c.deref-instance-items.ensures.value)
    c.loop-instance.invariant
