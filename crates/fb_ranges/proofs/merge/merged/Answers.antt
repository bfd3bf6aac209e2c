use Rattle.std.proofs.Common.{◌+◌, List, sym, ap, subst, ◌∙◌}
use Rattle.std.proofs.Math.Path.{fun_ext}
use Rattle.std.specs.Borrow.{Bor}
use Rattle.st_types.specs.declared.term.VariableName.{VariableName}
use Rattle.fb_ranges_intervals.specs.declared.interval.Interval.{Interval}
use Rattle.fb_ranges.specs.Meeting.{Dated, marked, ranges_after}
use Rattle.fb_ranges.specs.Views.{mark_of, names_of, spans_of}
use Rattle.fb_ranges.proofs.Noted.{IsNoted}
use Rattle.fb_ranges.proofs.Ways.{dated_next, ranges_next}
use Rattle.fb_ranges.proofs.merge.merged.Goals as goal

pub returns-clause-ranges : goal.returns-clause-ranges
returns-clause-ranges c = λ ends later noted same.
    let old = c.args.ways.now in
    let new = c.merge_rows.new.ways in
    let spans = spans_of c.args.ranges.now in
    let names = c.args.way.now.names.items in
    let here = subst (λ (l : List (Bor VariableName)). IsNoted l ends c.deref-2.result.now) (sym c.deref.ensures.value) (subst (λ (rs : List Interval). IsNoted names ends rs) (sym c.deref-2.ensures.value) noted) in
    ap (λ n. ranges_after (n + 1) (mark_of new) later) c.merge_rows.ensures.count
    ∙ ap (λ m. ranges_after (old.count + 1) m later) (fun_ext (c.in_ok-merge_rows.ensures.rows ends here))
    ∙ ap (λ (l : List (Bor VariableName)). ranges_after (old.count + 1) (marked old.count (names_of l) spans ends (mark_of old)) later) c.deref.ensures.value
    ∙ ranges_next old.count (names_of names) spans ends later (mark_of old) c.requires.dated same

pub returns-clause-dated : goal.returns-clause-dated
returns-clause-dated c = λ ends noted x.
    let old = c.args.ways.now in
    let new = c.merge_rows.new.ways in
    let spans = spans_of c.args.ranges.now in
    let names = c.args.way.now.names.items in
    let here = subst (λ (l : List (Bor VariableName)). IsNoted l ends c.deref-2.result.now) (sym c.deref.ensures.value) (subst (λ (rs : List Interval). IsNoted names ends rs) (sym c.deref-2.ensures.value) noted) in
    subst (λ n. Dated (n + 1) (mark_of new x)) (sym c.merge_rows.ensures.count)
    (subst (λ m. Dated (old.count + 1) m) (sym (c.in_ok-merge_rows.ensures.rows ends here x)) (dated_next old.count (names_of c.deref.result.now) spans ends (mark_of old) x (c.requires.dated x)))
