use denote.Ref.{Bor}
use Rattle.fb_flat.specs.declared.flat.Leaf.{Leaf}
use Rattle.fb_flat.specs.Leaves.{kind_of}
use Rattle.fb_find_ranges.specs.Lines.{first_lined}
use Rattle.fb_find_ranges.specs.Views.{lined_in, shown}
use Rattle.fb_find_ranges.proofs.Entries.{next_added}
use Rattle.fb_find_ranges.proofs.Linking.{linked_more}
use Rattle.fb_find_ranges.proofs.Sharing.{kept_more}
use Rattle.fb_find_ranges.proofs.first.first_rows.Goals as goal

pub loop-leaf-preserved : goal.loop-leaf-preserved
loop-leaf-preserved c = (
  next_added lined_in (λ (y : Bor Leaf). first_lined (shown y.now)) c.args.leaves.now c.loop-leaf.leaf-index c.leaf-item.result c.loop-leaf.all.items c.push.new.self.items c.in_ok-first.first c.loop-leaf-test.true c.leaf-item.is c.in_ok-push.ensures.items c.in_ok-first.ensures.lined c.loop-leaf.invariant.0,
  kept_more c.loop-leaf.all.items c.push.new.self.items c.in_ok-first.first c.in_ok-push.ensures.items c.loop-leaf.invariant.1 c.in_ok-first.ensures.kept,
  linked_more c.loop-leaf.all.items c.push.new.self.items c.as_slice.result.now c.in_ok-first.first (kind_of c.leaf-item.result.now.body) c.in_ok-push.ensures.items c.as_slice.ensures.value c.loop-leaf.invariant.2 c.in_ok-first.ensures.link,
)
