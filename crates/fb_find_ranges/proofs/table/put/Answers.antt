use Rattle.std.proofs.Common.{map}
use Rattle.fb_ranges.specs.Views.{spans_of}
use Rattle.fb_find_ranges.specs.Lines.{put}
use Rattle.fb_find_ranges.specs.Views.{line_of}
use Rattle.fb_find_ranges.proofs.Entries.{next_put}
use Rattle.fb_find_ranges.proofs.table.put.Goals as goal

pub loop-row-preserved : goal.loop-row-preserved
loop-row-preserved c =
    next_put c.args.rows.now c.loop-row.row-index c.row-item.result (spans_of c.loop-row.ranges) (spans_of c.insert_near.new.self) (put (map line_of c.args.rows.now) (spans_of c.args.ranges.now)) c.loop-row-test.true c.row-item.is c.loop-row.invariant c.in_ok-insert_near.ensures.set
