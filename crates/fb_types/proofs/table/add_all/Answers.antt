use Rattle.std.proofs.Common.{◌++◌, ◌∷◌, [], map, take, sym, ap, subst, ◌∙◌, append_assoc}
use Rattle.fb_tree.specs.Files as trees_of
use Rattle.fb_types_blocks.proofs.Lists.{mapped_more}
use Rattle.fb_types.specs.Made.{IsTable}
use Rattle.fb_types.proofs.table.add_all.Goals as goal

pub loop-block-preserved : goal.loop-block-preserved
loop-block-preserved c = λ bs so.
    let xs = c.args.blocks.now in
    let i = c.loop-block.block-index in
    let x = c.block-item.result in
    let made = map trees_of.block_of (take i xs) in
    subst (λ l. IsTable l c.add.new.types) (append_assoc bs made (trees_of.block_of x ∷ []) ∙ ap (λ l. bs ++ l) (sym (mapped_more trees_of.block_of xs i x c.loop-block-test.true c.block-item.is)))
    (c.in_ok-add.ensures (bs ++ made) (c.loop-block.invariant bs so))
