-- The rows RANGE of leaf tables, and certificates with them.
use Rattle.std.specs.Prelude.{◌≡◌, not, ◌&&◌, List, [], ◌∷◌, ◌++◌, string_bytes, if◌then◌else◌}
use Rattle.std.specs.List.{flat_map}
use Rattle.fb_model.specs.Names.{Name}
use Rattle.fb_model.specs.System.{Variable}
use Rattle.fb_model.specs.Wires.{Kind, Charted, Serviced}
use Rattle.fb_model.specs.Spans.{Span}
use Rattle.fb_model.specs.Clear.{Spans}
use Rattle.fb_model.specs.Ranges as book
use Rattle.fb_model.specs.Ranges.{variables}
use Rattle.fb_model.specs.Certificates.{is_boolean}
use Rattle.fb_model.specs.CertificateText.{range}
use Rattle.fb_flat.specs.declared.flat.Leaf.{Leaf}
use Rattle.fb_flat.specs.declared.flat.FlatDevice.{FlatDevice}
use Rattle.fb_flat.specs.Leaves.{kind_of}
use Rattle.fb_flat.specs.Sites.{dotted}
use Rattle.fb_check_ranges.specs.Places.{leaves_in}
use Rattle.fb_cert.specs.Adding.{is_sayable}
use Rattle.fb_cert.specs.Views.{Table, Rows, has_row, with_row, range_rows}

-- ---- rows

-- the rows of variables that are not BOOL, in their order
abbrev pub variable_rows : Spans → Name → List Variable → Table Span
variable_rows spans path [] = []
variable_rows spans path (v ∷ vs) = if is_boolean v.type then variable_rows spans path vs else (dotted path v.name, spans v.name) ∷ variable_rows spans path vs

-- those of a leaf; a service has none
abbrev pub kind_rows : Spans → Name → Kind → Table Span
kind_rows spans path (Charted block) = variable_rows spans path (variables (Charted block))
kind_rows spans path (Serviced service) = []

abbrev pub leaf_rows : Spans → Leaf → Table Span
leaf_rows spans leaf = kind_rows spans (string_bytes leaf.path) (kind_of leaf.body)

-- those of leaves, each with its own table
abbrev pub all_rows : List Spans → List Leaf → Table Span
all_rows (spans ∷ rest) (leaf ∷ leaves) = leaf_rows spans leaf ++ all_rows rest leaves
all_rows [] leaves = []
all_rows (spans ∷ rest) [] = []

-- the leaves of all devices
abbrev pub flat_leaves : List FlatDevice → List Leaf
flat_leaves devices = flat_map (λ (f : FlatDevice). leaves_in f.resources.items) devices

-- ---- certificates

-- with a row more, if a text can say it and its path stands in no row
abbrev pub added : Name × Span → Rows → Rows
added r rows = if is_sayable (range r.0 r.1.low r.1.high) && not (has_row (range r.0 r.1.low r.1.high) rows) then with_row (range r.0 r.1.low r.1.high) rows else rows

-- with many, one after another
abbrev pub adding : Table Span → Rows → Rows
adding [] rows = rows
adding (r ∷ rs) rows = adding rs (added r rows)

-- the rows RANGE are these, and all others are as before
pub record AddsRanges (ranges : List book.Range) (old new : Rows) : Type 0 where
  pub ranges_are : range_rows new.ranges ≡ ranges
  pub charges_same : new.charges ≡ old.charges
  pub weights_same : new.weights ≡ old.weights
  pub depths_same : new.depths ≡ old.depths
  pub repeats_same : new.repeats ≡ old.repeats
  pub fars_same : new.fars ≡ old.fars
  pub far_states_same : new.far_states ≡ old.far_states
  pub channels_same : new.channels ≡ old.channels
