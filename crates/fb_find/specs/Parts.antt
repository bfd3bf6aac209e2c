-- What is known on the way to a certificate.
use Rattle.std.specs.Prelude.{ℕ, ◌≡◌, List, [], Option, None, drop, length, map, string_bytes}
use Rattle.fb_model.specs.Names.{Name}
use Rattle.fb_model.specs.Clear.{Spans}
use Rattle.fb_model.specs.Ranges.{Range}
use Rattle.fb_model.specs.System.{System}
use Rattle.fb_model.specs.Certificates.{all_leaves, range_places, ranged}
use Rattle.fb_model.specs.Wires.{Kind, Charted, Serviced}
use Rattle.fb_cert.specs.declared.certificate.Certificate.{Certificate}
use Rattle.fb_cert.specs.Views.{range_rows, Rows}
use Rattle.fb_flat.specs.declared.flat.Leaf.{Leaf}
use Rattle.fb_flat.specs.Leaves.{kind_of}
use Rattle.fb_check_ranges.specs.Rows.{numbers_in, rows_in}
use Rattle.fb_flat.specs.declared.flat.FlatDevice.{FlatDevice}
use Rattle.fb_faults.specs.declared.unclear.Unclear.{Unclear}
use Rattle.fb_faults.specs.declared.unclear.Unclear.TheVariants as unclear
use Rattle.fb_model.specs.Misfits.{AllClear}
use Rattle.fb_faults.specs.declared.no_bound.NoBound.{NoBound}
use Rattle.fb_faults.specs.declared.no_bound.NoBound.TheVariants.{OutOfMemory, NoRange}
use Rattle.fb_find_demands.specs.declared.numbered.Numbering.{Numbering}
use Rattle.fb_types_blocks.specs.Views.{names_of}
use Rattle.fb_check_rows.specs.Texts.{texts_of}
use Rattle.fb_check_rows.specs.declared.kind.RowKind.TheVariants.{Charge, Weight}
use Rattle.fb_find_rows.specs.Numbers.{amounts, CanBeSaid, with_charges, with_weights}
use Rattle.fb_model.specs.CertificateText.{names_in}
use Rattle.fb_find_demands.specs.Ends.{end_of}
use Rattle.fb_find_demands.specs.Prices.{AreClear, AreTables}
use Rattle.fb_find.specs.Columns.{FulfilsAll}
use Rattle.fb_find.specs.Given.{IsGiven, IsNumbered}

-- the rows are these rows RANGE of all variables, in order, and all is clear under them
pub record HasRanges (s : System) (ranges : List Range) (rows : Rows) : Type 0 where
  pub places : range_places ranges ≡ ranged (all_leaves s.devices)
  pub are : range_rows rows.ranges ≡ ranges
  pub clear : AllClear ranges s
  pub no_charge : rows.charges ≡ []
  pub no_weight : rows.weights ≡ []
  pub no_depth : rows.depths ≡ []
  pub no_repeats : rows.repeats ≡ None
  pub no_far : rows.fars ≡ []
  pub no_far_state : rows.far_states ≡ []
  pub no_channel : rows.channels ≡ []

-- the leaves of a system that is given have these tables, one each
pub record HaveTables (devices : List FlatDevice) (tables : List Spans) (s : System) : Type 0 where
  pub given : IsGiven devices s
  pub many : length tables ≡ length (all_leaves s.devices)

-- the nodes have numbers by the texts of their rows, in their order, and channels that are followed their first ends
pub record HasNumbering (repeats : Option ℕ) (devices : List FlatDevice) (n : Numbering) (s : System) : Type 0 where
  pub numbered : IsNumbered repeats devices n s
  pub states : names_of n.states ≡ texts_of Charge devices
  pub events : names_of n.events ≡ texts_of Weight devices
  pub ends : map names_in (map string_bytes n.ends.items) ≡ map (end_of (all_leaves s.devices)) n.channels.items

-- and an order serves all columns
pub record IsReady (repeats : Option ℕ) (devices : List FlatDevice) (n : Numbering) (order : List ℕ) (s : System) : Type 0 where
  pub numbering : HasNumbering repeats devices n s
  pub serves : FulfilsAll repeats n s order

-- these tables, leaf by leaf, have the ranges, and algorithms are clear under them
pub record HasTables (s : System) (ranges : List Range) (tables : List Spans) : Type 0 where
  pub tables_are : AreTables ranges tables (all_leaves s.devices)
  pub clear : AreClear ranges (all_leaves s.devices)

-- ---- tables

-- the table of a leaf by the rows of a certificate
abbrev pub kind_table : Certificate → Name → Kind → Spans
kind_table cert path (Charted block) = rows_in cert path (Charted block)
kind_table cert path (Serviced service) = λ x. numbers_in None

abbrev pub table_in : Certificate → Leaf → Spans
table_in cert leaf = kind_table cert (string_bytes leaf.path) (kind_of leaf.body)

-- ---- rows of nodes

abbrev pub states_in : Numbering → List Name
states_in n = names_of n.states

abbrev pub events_in : Numbering → List Name
events_in n = names_of n.events

-- the rows of nodes with these numbers of the two columns
abbrev pub with_columns : Numbering → List ℕ → List ℕ → Rows → Rows
with_columns n steps places rows =
    with_weights (amounts (events_in n) (drop (length (states_in n)) steps) (drop (length (states_in n)) places)) (with_charges (amounts (states_in n) steps places) rows)

-- they can be said, and there are none yet
pub record CanBeAdded (n : Numbering) (steps places : List ℕ) (rows : Rows) : Type 0 where
  pub states_can : CanBeSaid (states_in n) steps places
  pub events_can : CanBeSaid (events_in n) (drop (length (states_in n)) steps) (drop (length (states_in n)) places)
  pub no_charge : rows.charges ≡ []
  pub no_weight : rows.weights ≡ []

-- how what is unclear is told
abbrev pub told_of : Unclear → NoBound
told_of unclear.OutOfMemory = OutOfMemory
told_of (unclear.Start path) = NoRange path
told_of (unclear.Link path) = NoRange path
told_of (unclear.Kept path) = NoRange path
told_of (unclear.IndexOrDivisor path) = NoRange path
