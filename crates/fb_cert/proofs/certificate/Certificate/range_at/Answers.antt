use Rattle.std.proofs.Common.{◌∙◌, List, ℕ, sym, ap}
use Rattle.std.specs.Option.{option_map}
use Rattle.std.proofs.lemmas.Option.{slice_get-map}
use Rattle.fb_model.specs.CertificateText.{range_row}
use Rattle.fb_model.specs.Ranges.{Range}
use Rattle.fb_model.specs.Spans.{Span}
use Rattle.fb_ranges_intervals.specs.declared.interval.Interval.{Interval}
use Rattle.fb_ranges_intervals.specs.Views.{span_of}
use Rattle.fb_cert.proofs.Places.{at_view}
use Rattle.fb_cert.proofs.certificate.Certificate.range_at.Goals as goal

pub returns-clause-row : goal.returns-clause-row
returns-clause-row c = rw (← c.self.view_is) (at_view (λ (p : (List ℕ) × Interval). (p.0, span_of p.1)) c.self.inside.lists.ranges.entries c.args.index c.in_ok-path.path.now c.as_str.result.now c.in_ok-path.interval.now c.in_ok-path.ensures.entry c.as_str.ensures.value)

pub returns-clause-book : goal.returns-clause-book
returns-clause-book c =
    let row : (List ℕ) × Span → Range = λ p. range_row p.0 p.1.low p.1.high in
    ap (option_map row) (returns-clause-row c) ∙ sym (slice_get-map row c.args.self.now.ranges c.args.index)
