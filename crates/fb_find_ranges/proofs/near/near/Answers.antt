use denote.Ref.{Bor}
use Rattle.std.proofs.Common.{◌∙◌, sym, ap, string_bytes}
use Rattle.fb_flat.specs.declared.flat.Leaf.{Leaf}
use Rattle.fb_find_ranges.specs.Views.{near_at}
use Rattle.fb_find_ranges.proofs.Putting.{one_more}
use Rattle.fb_find_ranges.proofs.near.near.Goals as goal

pub loop-index-preserved : goal.loop-index-preserved
loop-index-preserved c =
    λ x. one_more c.args.leaves.now c.loop-index.index c.index-leaves-index.result c.as_str.result.now (near_at c.loop-index.near x) (near_at c.put.new.near x) x c.loop-index-test.true c.index-leaves-index.is (c.as_str.ensures.value ∙ ap (λ (l : Bor Leaf). string_bytes l.now.path) (sym c.index-leaves-index.is)) (c.loop-index.invariant x) (c.in_ok-put.ensures x)
