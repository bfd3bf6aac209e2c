use Rattle.std.proofs.Common.{ap, sym, ◌∙◌}
use Rattle.std.specs.Prelude.{if◌then◌else◌}
use Rattle.std.specs.Str.{bytes_eq}
use Rattle.fb_ranges_intervals.specs.Views.{span_of}
use Rattle.fb_ranges.specs.Views.{mark_of, spans_of}
use Rattle.fb_ranges.proofs.Noted.{noted_at}
use Rattle.fb_ranges.proofs.Ways.{next_mark, same_mark}
use Rattle.fb_ranges.proofs.merge.merge_rows.Goals as goal

pub loop-i-preserved : goal.loop-i-preserved
loop-i-preserved c =
    let h = c.loop-i.invariant in
    let ways = c.loop-i.ways in
    let i = c.args.ways.now.count in
    let n = c.index-names-i.result in
    let x = c.as_str.result.now in
    let spans = spans_of c.args.ranges.now in
    record {
      count = c.merge_row.ensures.count ∙ h.count;
      told = c.merge_row.ensures.told ∙ h.told;
      rows = λ ends noted.
          let end = noted_at c.args.names.now ends c.args.ends.now c.loop-i.i c.in-Some.end.now n noted c.in-Some.ensures.lookup.1 c.loop-i-test.true c.index-names-i.is in
          let same = same_mark i ways.count (mark_of ways x) (span_of c.find_at.result) (span_of c.in-Some.end.now) (spans x) (ends x) h.count (c.find_at.ensures ∙ ap spans (sym c.as_str.ensures)) (end ∙ sym (ap ends c.as_str.ensures)) in
          next_mark c.args.names.now c.loop-i.i n i spans ends (mark_of c.args.ways.now) (mark_of ways) (mark_of c.merge_row.new.ways) x
          c.loop-i-test.true c.index-names-i.is c.as_str.ensures (h.rows ends noted)
          (λ y. c.in_ok-merge_row.ensures.rows y ∙ ap (λ m. if bytes_eq x y then m else mark_of ways y) same);
    }
