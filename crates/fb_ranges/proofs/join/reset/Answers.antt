use Rattle.std.proofs.Common.{refl, string_bytes}
use Rattle.fb_ranges_intervals.specs.Views.{span_of}
use Rattle.fb_ranges.specs.Views.{spans_of}
use Rattle.fb_ranges.proofs.Joins.{next_name}
use Rattle.fb_ranges.proofs.join.reset.Goals as goal

pub loop-name-preserved : goal.loop-name-preserved
loop-name-preserved c =
    let rows = spans_of c.args.rows.now in
    next_name c.args.names.now c.loop-name.name-index c.name-item.result rows (spans_of c.loop-name.ranges) (spans_of c.insert_at.new.self) (spans_of c.args.ranges.now) (string_bytes c.name-item.result.now.name) (span_of c.find_at.result)
    c.loop-name-test.true c.name-item.is refl c.find_at.ensures c.loop-name.invariant c.in_ok-insert_at.ensures.set
