use Rattle.std.proofs.Common.{◌∙◌, ap, ap₂, refl, sym, map}
use Rattle.std.specs.Cmp.Lexicographic.{pointwise}
use Rattle.std.specs.String.{string_eq}
use Rattle.fb_ranges_intervals.specs.Views.{span_of}
use Rattle.fb_ranges.proofs.Likening.{rows_like}
use Rattle.fb_ranges.proofs.rows.Ranges.is_like.Goals as goal

pub returns-then-are_same : goal.returns-then-are_same
returns-then-are_same c t =
    let one = c.args.self.now in
    let two = c.args.other.now in
    rows_like one.names.value.keys two.names.value.keys one.rows.items two.rows.items
    (sym t ∙ c.eq.ensures ∙ ap₂ (pointwise string_eq) (c.as_slice.ensures.keys ∙ ap (λ s. s.keys) c.deref-then-are_same.ensures) (c.as_slice-then-are_same.ensures.keys ∙ ap (λ s. s.keys) c.deref-then-are_same-2.ensures))
    (ap (map span_of) (sym c.deref.ensures.value) ∙ c.if-are_same.ensures refl ∙ ap (map span_of) c.deref-2.ensures.value)
