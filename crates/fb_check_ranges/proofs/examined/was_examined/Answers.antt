use Rattle.std.proofs.Common.{refl, sym}
use Rattle.fb_ranges.specs.Views.{spans_of}
use Rattle.fb_types_blocks.specs.Views.{block_of}
use Rattle.fb_check_ranges.specs.Examining.{IsExamined}
use Rattle.fb_lists.proofs.Lists.{all_here}
use Rattle.fb_check_ranges.proofs.Sharing.{clear_alike}
use Rattle.fb_check_ranges.proofs.examined.was_examined.Goals as goal

pub returns-then-are_alike : goal.returns-then-are_alike
returns-then-are_alike c t =
    let e = c.examined-item.result in
    let clear = all_here IsExamined c.args.known.now c.loop-examined.examined-index e c.requires c.loop-examined-test.true (sym c.examined-item.is) in
    clear_alike (spans_of e.rows) (spans_of c.args.rows.now) (block_of e.block.now.value) (block_of c.args.block.now.value) (c.if-are_alike.ensures.rows refl) (c.if-are_alike.ensures.block refl) clear
