use Rattle.std.proofs.Common.{sym, subst}
use Rattle.fb_lists.proofs.Lists.{all_here}
use Rattle.fb_find_ranges.specs.Views.{IsKept, Shared}
use Rattle.fb_find_ranges.proofs.table.all_ranges.Goals as goal

pub own_ranges-requires : goal.own_ranges-requires
own_ranges-requires c =
    subst IsKept (sym c.deref.ensures) (all_here (λ (s : Shared). IsKept s.value) c.args.all.now c.loop-leaf_rows.leaf_rows-index c.leaf_rows-item.result c.requires c.loop-leaf_rows-test.true (sym c.leaf_rows-item.is))
