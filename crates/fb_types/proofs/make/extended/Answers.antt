use Rattle.std.proofs.Common.{◌++◌, ◌∷◌, [], map, sym, ap, ◌∙◌}
use Rattle.std.proofs.lemmas.List.{map_push, take_all}
use Rattle.fb_types_blocks.proofs.Lists.{mapped_more}
use Rattle.fb_types.specs.Made.{tree_of}
use Rattle.fb_types.proofs.make.extended.Goals as goal

pub returns : goal.returns
returns c =
    let xs = c.args.path.now in
    ap (map tree_of) c.in_ok-push-2.ensures.items ∙ map_push tree_of c.loop-outer.longer.items c.args.block
    ∙ ap (λ l. l ++ tree_of c.args.block ∷ []) (c.loop-outer.invariant ∙ ap (map tree_of) (take_all c.loop-outer.outer-index xs c.loop-outer-test.false))

pub loop-outer-preserved : goal.loop-outer-preserved
loop-outer-preserved c =
    let xs = c.args.path.now in
    let i = c.loop-outer.outer-index in
    let x = c.outer-item.result in
    ap (map tree_of) c.in_ok-push.ensures.items ∙ map_push tree_of c.loop-outer.longer.items x ∙ ap (λ l. l ++ tree_of x ∷ []) c.loop-outer.invariant ∙ sym (mapped_more tree_of xs i x c.loop-outer-test.true c.outer-item.is)
