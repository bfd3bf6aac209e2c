use Rattle.fb_ranges_intervals.specs.Views.{span_of}
use Rattle.fb_check_ranges.proofs.Starting.{begins_both}
use Rattle.fb_check_ranges.proofs.begin.begins.Goals as goal

pub returns-then-is_within : goal.returns-then-is_within
returns-then-is_within c =
    λ value only. begins_both (span_of c.args.row) (span_of c.whole.result) (span_of c.args.first) c.args.of value c.is_within.result c.is_within-then-is_within.result c.whole.ensures.value c.is_within.ensures c.if-is_within.true c.is_within-then-is_within.ensures only
