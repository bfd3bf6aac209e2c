use Rattle.std.proofs.Common.{◌≡◌, ◌≤◌, length, take, ap, ◌∙◌, arith}
use Rattle.std.proofs.lemmas.List.{take_all}
use Rattle.fb_model.specs.Clear.{reset}
use Rattle.fb_ranges.specs.Meeting.{met, ranges_after}
use Rattle.fb_ranges_intervals.specs.Views.{span_of}
use Rattle.fb_ranges.specs.Views.{mark_of, names_in, spans_of}
use Rattle.fb_ranges.proofs.Joins.{next_row}
use Rattle.fb_ranges.proofs.Ways.{all_marks, row_at}
use Rattle.fb_ranges.proofs.merge.close.Goals as goal

pub loop-i-preserved : goal.loop-i-preserved
loop-i-preserved c =
    let ways = c.args.ways.now in
    let rows = ways.rows.entries in
    let old = spans_of c.args.ranges.now in
    let before = spans_of c.loop-i.ranges in
    let i = c.loop-i.i in
    let x = c.as_str-name.result.now in
    let range : span_of c.range_after.result ≡ ranges_after ways.count (mark_of ways) old x =
    c.range_after.ensures ∙ ap (met ways.count (mark_of ways x)) c.find.ensures ∙ row_at ways.count (names_in (take i rows)) (mark_of ways) old before x c.loop-i.invariant in
    next_row rows i (c.in-Some.name.now, c.in-Some.field-0-1.now) (ranges_after ways.count (mark_of ways) old) before (spans_of c.insert.new.self) old x (span_of c.range_after.result)
    c.in-Some.ensures.entry c.as_str-name.ensures.value range c.loop-i.invariant c.in_ok-insert.ensures.set

pub returns : goal.returns
returns c =
    let ways = c.args.ways.now in
    let rows = ways.rows in
    let old = spans_of c.args.ranges.now in
    let far : length rows.entries ≤ c.loop-i.i = omega (arith, c.len-i-end.ensures.len) in
    c.loop-i.invariant
    ∙ ap (λ es. reset (names_in es) (ranges_after ways.count (mark_of ways) old) old) (take_all c.loop-i.i rows.entries far)
    ∙ all_marks ways.count rows.entries old
