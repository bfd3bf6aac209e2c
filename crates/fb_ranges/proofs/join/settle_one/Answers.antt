use Rattle.std.proofs.Common.{◌≡◌, true, ap, ap₂, sym, ◌∙◌, string_bytes}
use Rattle.fb_model.specs.Spans.{Span, joined, within}
use Rattle.fb_model.specs.Clear.{changed}
use Rattle.fb_model.specs.Asking.{asking}
use Rattle.fb_ranges.specs.Settling.{held}
use Rattle.fb_ranges.specs.Views.{spans_of}
use Rattle.fb_ranges.proofs.Covers.{joined_same, joined_within}
use Rattle.fb_ranges.proofs.Likening.{spans_like}
use Rattle.fb_ranges.proofs.Settling.{held_asking, held_in, within_same}
use Rattle.fb_ranges.proofs.Sides.{changed_same}
use Rattle.fb_ranges.proofs.join.settle_one.Goals as goal

pub returns-then-is_same-clause-asks : goal.returns-then-is_same-clause-asks
returns-then-is_same-clause-asks c =
    let x = string_bytes c.args.name.now.name in
    let rows = spans_of c.args.rows.now in
    let is = sym c.find_at-range.ensures ∙ spans_like c.find_at-range.result c.find_at-row.result (sym c.is_same.ensures ∙ c.if-is_same.true) ∙ c.find_at-row.ensures in
    held_in rows (spans_of c.args.asked.now) x (spans_of c.args.ranges.now x) (ap (joined (rows x)) is ∙ joined_same (rows x))

pub returns-then-is_same-clause-kept : goal.returns-then-is_same-clause-kept
returns-then-is_same-clause-kept c =
    let x = string_bytes c.args.name.now.name in
    let is = sym c.find_at-range.ensures ∙ spans_like c.find_at-range.result c.find_at-row.result (sym c.is_same.ensures ∙ c.if-is_same.true) ∙ c.find_at-row.ensures in
    sym (within_same (spans_of c.args.ranges.now x) (spans_of c.args.rows.now x) is)

pub returns-then-is_same-clause-rest : goal.returns-then-is_same-clause-rest
returns-then-is_same-clause-rest c =
    let x = string_bytes c.args.name.now.name in
    let is = sym c.find_at-range.ensures ∙ spans_like c.find_at-range.result c.find_at-row.result (sym c.is_same.ensures ∙ c.if-is_same.true) ∙ c.find_at-row.ensures in
    changed_same x (λ b. spans_of c.args.rows.now x) (spans_of c.args.ranges.now) (sym is)

pub returns-then-is_within-clause-asks : goal.returns-then-is_within-clause-asks
returns-then-is_within-clause-asks c =
    let x = string_bytes c.args.name.now.name in
    let rows = spans_of c.args.rows.now in
    let range = spans_of c.args.ranges.now x in
    let lies : within range (rows x) ≡ true = ap₂ within (sym c.find_at-range.ensures) (sym c.find_at-row.ensures) ∙ sym c.is_within.ensures ∙ c.if-is_within.true in
    held_in rows (spans_of c.args.asked.now) x range (joined_within range (rows x) lies)

pub returns-then-is_within-clause-rest : goal.returns-then-is_within-clause-rest
returns-then-is_within-clause-rest c =
    let x = string_bytes c.args.name.now.name in
    c.in_ok-insert_at.ensures.set ∙ ap (λ (r : Span). changed x (λ b. r) (spans_of c.args.ranges.now)) c.find_at-row.ensures

pub returns-clause-asks : goal.returns-clause-asks
returns-clause-asks c =
    let x = string_bytes c.args.name.now.name in
    let rows = spans_of c.args.rows.now in
    let q = spans_of c.args.asked.now in
    ap (held rows) (c.in_ok-ask.ensures ∙ ap (λ (r : Span). asking x r q) c.find_at-range.ensures) ∙ held_asking rows q x (spans_of c.args.ranges.now x)

pub returns-clause-rest : goal.returns-clause-rest
returns-clause-rest c =
    let x = string_bytes c.args.name.now.name in
    c.in_ok-insert_at.ensures.set ∙ ap (λ (r : Span). changed x (λ b. r) (spans_of c.args.ranges.now)) c.find_at-row.ensures
