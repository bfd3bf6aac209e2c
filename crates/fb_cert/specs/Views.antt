-- What certificates are, without where they lie in memory.
use Rattle.std.specs.Prelude.{◌≡◌, ℕ, Bool, not, List, [], ◌∷◌, ◌++◌, map, Option, Some, None, is_some, if◌then◌else◌}
use Rattle.std.specs.Option.{option_map, unwrap_or}
use Rattle.std.specs.Str.{bytes_eq}
use Rattle.fb_ranges_intervals.specs.declared.interval.Interval.{Interval}
use Rattle.fb_ranges_intervals.specs.Views.{span_of}
use Rattle.fb_cert.specs.declared.certificate.Amount.{Amount}
use Rattle.fb_cert.specs.declared.certificate.Certificate.{Certificate}
pub use Rattle.fb_cert.specs.Rows.{Table, texts_of, spans_of, has_path, has_number, amount, Rows, no_rows, rows_in, with_depth_at, range_rows, amount_rows, depth_rows, far_rows, channel_rows, book_of}
use denote.Ref.{Bor}
use Rattle.fb_model.specs.Certificates as book
use Rattle.fb_model.specs.Ranges.{Range}
use Rattle.fb_model.specs.Spans.{Span, span, whole}
use Rattle.fb_model.specs.System.{Variable}
use Rattle.fb_model.specs.CertificateText.{range_row, row_of, depth_row, far_row, channel_row, TextRow, repeats, range, charge, weight, depth, far, far_state, channel}
use Rattle.fb_cert.specs.declared.row.Row.{Row}
use Rattle.fb_cert.specs.declared.row.Row.TheVariants as kinds

-- a certificate is seen as its rows
abbrev pub rows_of : Certificate → Rows
rows_of c = c

-- the certificate that the checker speaks of
abbrev pub certificate_of : Certificate → book.Certificate
certificate_of c = book_of (rows_of c)

-- what the first row of a path says
abbrev pub first_at : {V : Type 0} → List ℕ → Table V → Option V
first_at path [] = None
first_at path (r ∷ rs) = if bytes_eq path r.0 then Some r.1 else first_at path rs

-- whether a row is new, and the rows with it at the end
abbrev pub AddsNew : {R : Type 0} → Bool → List R → R → List R → Bool → Type 0
AddsNew stands old row new said = (said ≡ not stands) × (new ≡ (if said then old ++ row ∷ [] else old))

-- whether a path is new, and the rows with it at the end
abbrev pub Adds : {V : Type 0} → Table V → List ℕ → V → Table V → Bool → Type 0
Adds old path value new said = AddsNew (has_path path old) old (path, value) new said

abbrev pub shown : {V : Type 0} → (Bor (List ℕ)) × V → (List ℕ) × V
shown p = (p.0.now, p.1)

abbrev pub texts : List (Bor (List ℕ)) → List (List ℕ)
texts words = map (λ w. w.now) words

abbrev pub text_row_of : Row → TextRow
text_row_of (kinds.Repeats n) = repeats n
text_row_of (kinds.Range path i) = range path.now i.low i.high
text_row_of (kinds.Charge path a) = charge path.now a.steps a.places
text_row_of (kinds.Weight path a) = weight path.now a.steps a.places
text_row_of (kinds.Depth path n) = depth path.now n
text_row_of (kinds.Far path n) = far path.now n
text_row_of (kinds.FarState path n) = far_state path.now n
text_row_of (kinds.Channel number n) = channel number n

abbrev pub row_seen : Option Row → Option TextRow
row_seen None = None
row_seen (Some row) = Some (text_row_of row)

-- the row's path or number stands already in a row of its kind
abbrev pub has_row : TextRow → Rows → Bool
has_row (repeats n) rows = is_some rows.repeats
has_row (range p l h) rows = has_path p rows.ranges
has_row (charge p s k) rows = has_path p rows.charges
has_row (weight p s k) rows = has_path p rows.weights
has_row (depth p n) rows = has_path p rows.depths
has_row (far p n) rows = has_path p rows.fars
has_row (far_state p n) rows = has_path p rows.far_states
has_row (channel number n) rows = has_number number rows.channels

-- the rows with one more at the end
abbrev pub with_row : TextRow → Rows → Rows
with_row (repeats n) rows = record rows { repeats = Some n }
with_row (range p l h) rows = record rows { ranges = rows.ranges ++ (p, span l h) ∷ [] }
with_row (charge p s k) rows = record rows { charges = rows.charges ++ (p, amount s k) ∷ [] }
with_row (weight p s k) rows = record rows { weights = rows.weights ++ (p, amount s k) ∷ [] }
with_row (depth p n) rows = record rows { depths = rows.depths ++ (p, n) ∷ [] }
with_row (far p n) rows = record rows { fars = rows.fars ++ (p, n) ∷ [] }
with_row (far_state p n) rows = record rows { far_states = rows.far_states ++ (p, n) ∷ [] }
with_row (channel number n) rows = record rows { channels = rows.channels ++ (number, n) ∷ [] }

abbrev pub AddsRow : Rows → TextRow → Rows → Bool → Type 0
AddsRow old e new said = (said ≡ not (has_row e old)) × (new ≡ (if said then with_row e old else old))

-- ---- where there is no row, the book counts nothing

abbrev pub steps_in : Option Amount → ℕ
steps_in None = 0
steps_in (Some a) = a.steps

abbrev pub places_in : Option Amount → ℕ
places_in None = 0
places_in (Some a) = a.places

abbrev pub count_in : Option ℕ → ℕ
count_in None = 0
count_in (Some n) = n

-- where a variable has no row, all numbers of its type
abbrev pub span_in : Variable → Option Interval → Span
span_in v i = unwrap_or (option_map span_of i) (whole v.type)

-- a row of a range, by its span
abbrev pub span_shown : (Bor (List ℕ)) × Interval → (List ℕ) × Span
span_shown p = (p.0.now, span_of p.1)

-- a row in the book's form
abbrev pub row_shown : (Bor (List ℕ)) × Amount → book.Row
row_shown p = row_of p.0.now p.1.steps p.1.places

abbrev pub depth_shown : (Bor (List ℕ)) × ℕ → book.DepthRow
depth_shown p = depth_row p.0.now p.1

abbrev pub far_shown : (Bor (List ℕ)) × ℕ → book.FarRow
far_shown p = far_row p.0.now p.1

abbrev pub channel_shown : ℕ × ℕ → book.ChannelRow
channel_shown p = channel_row p.0 p.1

abbrev pub range_shown : (Bor (List ℕ)) × Interval → Range
range_shown p = range_row p.0.now p.1.low p.1.high
