use Rattle.fb_types_blocks.specs.Views.{names_of}
use Rattle.fb_check_rows.specs.Texts.{leaf_texts}
use Rattle.fb_check_rows.proofs.Members.{next_items, rest_of}
use Rattle.fb_check_rows.proofs.requirement.require_leaves.Goals as goal

pub loop-leaf-preserved : goal.loop-leaf-preserved
loop-leaf-preserved c =
    let xs = c.args.leaves.now in
    let k = c.loop-leaf.leaf-index in
    next_items (leaf_texts c.args.kind) xs k c.leaf-item.result (names_of c.loop-leaf.rows) (names_of c.require_leaf.new.rows) _ (rest_of xs k c.leaf-item.result c.loop-leaf-test.true c.leaf-item.is) c.in_ok-require_leaf.ensures.rows c.loop-leaf.invariant
