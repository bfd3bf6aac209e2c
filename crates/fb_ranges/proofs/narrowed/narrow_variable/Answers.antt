use Rattle.std.proofs.Common.{◌≡◌, string_bytes, to_z, of_z, w64, arith, ap₂, subst, ◌∙◌}
use Rattle.std.specs.Prelude.{OnOk}
use Rattle.std.proofs.lemmas.Int.{ints}
use Rattle.fb_model.specs.Clear.{Spans, meets}
use Rattle.fb_ranges_intervals.specs.Views.{span_of}
use Rattle.fb_ranges.specs.Views.{spans_of}
use Rattle.fb_ranges.proofs.Sides.{changed_known}
use Rattle.fb_ranges.proofs.narrowed.narrow_variable.Goals as goal

pub returns : goal.returns
returns c =
    let x = string_bytes c.args.name.now.name in
    let f = meets c.args.operator c.args.number in
    let spans = spans_of c.args.ranges.now in
    let k : to_z w64 (of_z w64 c.args.number) ≡ c.args.number = omega (arith, ints) in
    let e : span_of c.meets.result ≡ f (spans x) = c.meets.ensures ∙ ap₂ (λ z r. meets c.args.operator z r) k c.find_at-before.ensures in
    subst (λ (s : Spans). OnOk c.insert_at.result (spans_of c.insert_at.new.self ≡ s)) (changed_known x f spans (span_of c.meets.result) e) c.insert_at.ensures.set
