use Rattle.std.proofs.Common.{refl, string_bytes}
use Rattle.fb_ranges_intervals.specs.Views.{span_of}
use Rattle.fb_ranges.specs.Views.{spans_of}
use Rattle.fb_ranges.proofs.Joins.{next_name}
use Rattle.fb_ranges.proofs.Noted.{noted_at}
use Rattle.fb_ranges.proofs.merge.take_back.Goals as goal

pub loop-i-preserved : goal.loop-i-preserved
loop-i-preserved c = λ spans noted.
    let n = c.index-names-i.result in
    let x = string_bytes n.now.name in
    let end = noted_at c.args.names.now spans c.args.noted.now c.loop-i.i c.in-Some.range.now n noted c.in-Some.ensures.lookup.1 c.loop-i-test.true c.index-names-i.is in
    next_name c.args.names.now c.loop-i.i n spans (spans_of c.loop-i.ranges) (spans_of c.insert_at.new.self) (spans_of c.args.ranges.now) x (span_of c.in-Some.range.now)
    c.loop-i-test.true c.index-names-i.is refl end (c.loop-i.invariant spans noted) c.in_ok-insert_at.ensures.set
