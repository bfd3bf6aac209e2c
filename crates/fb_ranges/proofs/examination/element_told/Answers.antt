use Rattle.std.proofs.Common.{◌≡◌, to_z, of_z, w64, arith, refl, sym, ap, ap₂, ◌∙◌}
use Rattle.std.specs.Prelude.{if◌then◌else◌}
use Rattle.std.proofs.lemmas.Int.{ints}
use Rattle.fb_model.specs.Spans.{span, within}
use Rattle.fb_model.specs.Clear.{Clear, Leaves, Traps, with_range}
use Rattle.fb_ranges_intervals.specs.Views.{span_of}
use Rattle.fb_ranges.specs.declared.told.Told.TheVariants as t
use Rattle.fb_ranges.specs.Finding.{keeping, trapping}
use Rattle.fb_ranges.specs.Views.{clear_range}
use Rattle.fb_ranges.proofs.Telling.{tell_element, tell_range}
use Rattle.fb_ranges.proofs.examination.element_told.Goals as goal

pub returns : goal.returns
returns c =
    λ s.
    let row = span_of c.args.row in
    let bounds = span c.args.low c.args.high in
    let i = span_of c.args.index.range in
    let v = span_of c.args.value.range in
    let a : to_z w64 (of_z w64 c.args.low) ≡ c.args.low = omega (arith, ints) in
    let b : to_z w64 (of_z w64 c.args.high) ≡ c.args.high = omega (arith, ints) in
    let fits : c.is_between-fits.result ≡ within i bounds = c.is_between-fits.ensures ∙ ap₂ (λ x y. within i (span x y)) a b in
    let inner : c.trapping-told.result ≡ trapping (within i bounds) (keeping (within v row) (t.Steps 1)) =
    c.trapping-told.ensures ∙ ap₂ trapping fits (c.keeping.ensures ∙ ap (λ x. keeping x (t.Steps 1)) c.is_within-stays.ensures) in
    c.trapping-2.ensures
    ∙ ap (trapping c.args.index.is_clear)
    (c.trapping.ensures
    ∙ ap (trapping c.args.value.is_clear) (inner ∙ sym (tell_element (within i bounds) (within v row) s))
    ∙ sym (tell_range (clear_range c.args.value) c.args.value.is_clear v (λ r. if within i bounds then (if within r row then Clear s 1 else Leaves) else Traps) refl))
    ∙ sym (tell_range (clear_range c.args.index) c.args.index.is_clear i (λ k. with_range (clear_range c.args.value) (λ r. if within k bounds then (if within r row then Clear s 1 else Leaves) else Traps)) refl)
