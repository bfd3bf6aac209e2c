use Rattle.std.proofs.Common.{◌≡◌, ◌∙◌, sym, ap}
use Rattle.std.specs.Option.{option_map, unwrap_or}
use Rattle.fb_model.specs.Spans.{whole}
use Rattle.fb_ranges_intervals.specs.Views.{span_of}
use Rattle.fb_cert.specs.Views.{first_at, texts_of, spans_of}
use Rattle.fb_cert.proofs.Tables.{first_from_lookup, first_span}
use Rattle.fb_cert.proofs.Places.{span_same}
use Rattle.fb_cert.proofs.certificate.Certificate.range.Goals as goal

pub returns : goal.returns
returns c =
    let table = texts_of c.self.inside.lists.ranges in
    let path = c.args.path.now in
    let e : option_map span_of c.copied.result ≡ first_at path (spans_of table) = ap (option_map span_of) (c.copied.ensures ∙ c.get.ensures.value ∙ first_from_lookup path c.self.inside.lists.ranges.entries) ∙ first_span path table in
    rw (← c.self.view_is) (record { row = e; span = λ v h. ap (λ o. unwrap_or o (whole v.type)) e ∙ sym (span_same (spans_of table) path v h) })
