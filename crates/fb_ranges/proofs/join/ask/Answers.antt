use Rattle.std.proofs.Common.{◌≡◌, true, ap, subst, sym, ◌∙◌, string_bytes}
use Rattle.std.specs.Prelude.{OnOk}
use Rattle.fb_model.specs.Spans.{joined, within}
use Rattle.fb_model.specs.Clear.{Spans}
use Rattle.fb_ranges_intervals.specs.Views.{span_of}
use Rattle.fb_ranges.specs.Views.{spans_of}
use Rattle.fb_ranges.proofs.Sides.{changed_known, changed_same}
use Rattle.fb_ranges.proofs.Covers.{joined_within}
use Rattle.fb_ranges.proofs.join.ask.Goals as goal

pub returns : goal.returns
returns c =
    let r = span_of c.args.range in
    let e : span_of c.joined.result ≡ joined (spans_of c.args.asked.now (string_bytes c.args.name.now.name)) r = c.joined.ensures ∙ ap (λ b. joined b r) c.find_at-row.ensures in
    subst (λ (s : Spans). OnOk c.insert_at.result (spans_of c.insert_at.new.self ≡ s)) (changed_known (string_bytes c.args.name.now.name) (λ b. joined b r) (spans_of c.args.asked.now) (span_of c.joined.result) e) c.insert_at.ensures.set

pub returns-then-is_within : goal.returns-then-is_within
returns-then-is_within c =
    let x = string_bytes c.args.name.now.name in
    let r = span_of c.args.range in
    let s = spans_of c.args.asked.now in
    let lies : within r (s x) ≡ true = ap (within r) (sym c.find_at-row.ensures) ∙ sym c.is_within.ensures ∙ c.if-is_within.true in
    changed_same x (λ b. joined b r) s (joined_within r (s x) lies)
