-- The rows of a certificate, without where they lie in memory.
use Rattle.std.specs.Prelude.{ℕ, ◌==◌, Bool, List, [], map, string_bytes, Option, None}
use Rattle.std.specs.List.{list_any}
use Rattle.std.specs.Str.{bytes_eq}
use Rattle.std.specs.declared.string.String.{String}
use Rattle.std.specs.declared.alloc.Global.{Global}
use Rattle.indexmap.specs.IndexMap.{IndexMap, set_value_at}
use Rattle.fb_model.specs.Certificates as book
use Rattle.fb_model.specs.Ranges.{Range}
use Rattle.fb_model.specs.Spans.{Span}
use Rattle.fb_model.specs.CertificateText.{range_row, row_of, depth_row, far_row, channel_row}
use Rattle.fb_ranges_intervals.specs.declared.interval.Interval.{Interval}
use Rattle.fb_ranges_intervals.specs.Views.{span_of}
use Rattle.fb_cert.specs.declared.certificate.Amount.{Amount}
use Rattle.fb_cert.specs.declared.lists.Lists.{Lists}

-- the rows of a kind, each by its path
abbrev pub Table : Type 0 → Type 0
Table V = List ((List ℕ) × V)

abbrev pub texts_of : {V S : Type 0} → IndexMap (String Global) V S → Table V
texts_of m = map (λ e. (string_bytes e.0, e.1)) m.entries

-- the paths with the spans of their intervals
abbrev pub spans_of : Table Interval → Table Span
spans_of rows = map (λ r. (r.0, span_of r.1)) rows

abbrev pub amount : ℕ → ℕ → Amount
amount steps places = record { steps = steps; places = places }

-- the path stands in a row
abbrev pub has_path : {V : Type 0} → List ℕ → Table V → Bool
has_path path rows = list_any (λ r. bytes_eq path r.0) rows

-- the number stands in a row
abbrev pub has_number : {V : Type 0} → ℕ → List (ℕ × V) → Bool
has_number number rows = list_any (λ r. number == r.0) rows

-- the rows of a text by their kinds
pub record Rows : Type 0 where
  pub repeats : Option ℕ
  pub ranges : Table Span
  pub charges : Table Amount
  pub weights : Table Amount
  pub depths : Table ℕ
  pub fars : Table ℕ
  pub far_states : Table ℕ
  pub channels : List (ℕ × ℕ)

abbrev pub no_rows : Rows
no_rows = record { repeats = None; ranges = []; charges = []; weights = []; depths = []; fars = []; far_states = []; channels = [] }

abbrev pub rows_in : Lists → Rows
rows_in c =
    record {
      repeats = c.repeats;
      ranges = spans_of (texts_of c.ranges);
      charges = texts_of c.charges;
      weights = texts_of c.weights;
      depths = texts_of c.depths;
      fars = texts_of c.fars;
      far_states = texts_of c.far_states;
      channels = c.channels.entries;
    }

-- the rows with another depth at an index; past the last row nothing changes
abbrev pub with_depth_at : ℕ → ℕ → Rows → Rows
with_depth_at index depth rows = record rows { depths = set_value_at rows.depths index depth }

abbrev pub range_rows : Table Span → List Range
range_rows rows = map (λ r. range_row r.0 r.1.low r.1.high) rows

abbrev pub amount_rows : Table Amount → List book.Row
amount_rows rows = map (λ r. row_of r.0 r.1.steps r.1.places) rows

abbrev pub depth_rows : Table ℕ → List book.DepthRow
depth_rows rows = map (λ r. depth_row r.0 r.1) rows

abbrev pub far_rows : Table ℕ → List book.FarRow
far_rows rows = map (λ r. far_row r.0 r.1) rows

abbrev pub channel_rows : List (ℕ × ℕ) → List book.ChannelRow
channel_rows rows = map (λ r. channel_row r.0 r.1) rows

-- the certificate that the checker speaks of
abbrev pub book_of : Rows → book.Certificate
book_of rows =
    record {
      ranges = range_rows rows.ranges;
      charges = amount_rows rows.charges;
      weights = amount_rows rows.weights;
      depths = depth_rows rows.depths;
      repeats = rows.repeats;
      fars = far_rows rows.fars;
      far_states = far_rows rows.far_states;
      channels = channel_rows rows.channels;
    }
