-- What is given of a system that stands in texts, and what is ready for the columns.
use Rattle.std.proofs.Common.{ℕ, ◌≡◌, ◌∙◌, List, [], map, ap, subst, sym, Option, None, Some, string_bytes}
use Rattle.std.specs.List.{AllByRecursion}
use Rattle.fb_model.specs.System.{Device, System}
use Rattle.fb_model.specs.Wires.{Kind, Charted, Serviced, Leaf, leaves}
use Rattle.fb_model.specs.Ranges.{KindClears, LeafClears, Range, rows}
use Rattle.fb_model.specs.Certificates as certs
use Rattle.fb_model.specs.Certificates.{all_leaves, FollowsFew, Fits}
use Rattle.fb_model.specs.StructuredTextGrammar.{most_nested, most_nested_statements}
use Rattle.fb_model.proofs.Lists.{all_weaker}
use Rattle.fb_types_events.specs.declared.library.TheConstants.{EVENT_BLOCKS}
use Rattle.fb_types_events.proofs.EventTrees.{event_trees, event_source}
use Rattle.fb_types_events.proofs.Spelled.{event_source_spelled}
use Rattle.fb_model_laws.specs.Words.{IsCapitalDevice}
use Rattle.fb_model_laws.proofs.Systems.{capital}
use Rattle.fb_model.specs.Demands.{Node, IsClosedWalk}
use Rattle.fb_model_laws.proofs.Walks.{walks_exclude}
use Rattle.fb_model_laws.proofs.Networks.{networks_exclude}
use Rattle.fb_model.specs.Finding.{node_of}
use Rattle.fb_model.specs.Written.{IsWritten}
use Rattle.fb_flat.specs.declared.flat.FlatDevice.{FlatDevice}
use Rattle.fb_flat.specs.Leaves.{flat_device, written_device}
use Rattle.fb_verified.proofs.Written.{with_event_trees, words, tables_are as written_tables}
use Rattle.std.specs.declared.string.String.{String}
use Rattle.std.specs.declared.alloc.Global.{Global}
use Rattle.fb_cert.specs.declared.certificate.Certificate.{Certificate}
use Rattle.fb_model.specs.FinderRanges.{AreFound}
use Rattle.fb_model.specs.Finding.{AreTaken}
use Rattle.fb_cert.specs.Views.{certificate_of, range_rows, Rows, rows_of}
use Rattle.fb_find_ranges.specs.AddedRows.{flat_leaves}
use Rattle.fb_model.specs.Misfits.{AllClear}
use Rattle.fb_find_ranges.proofs.Distinct.{on_all_leaves, charges_are_apart, weights_are_apart}
use Rattle.fb_model.specs.CertificateText.{names_in, place_of}
use Rattle.fb_find_demands.specs.Ends.{end_of}
use Rattle.fb_find_laws.specs.Nodes.{AreRowsOf}
use Rattle.fb_types_blocks.specs.Views.{names_of}
use Rattle.fb_check_rows.specs.Members.{gathered}
use Rattle.fb_check_rows.specs.Texts.{texts_of}
use Rattle.fb_check_rows.specs.declared.kind.RowKind.TheVariants.{Charge, Weight}
use Rattle.fb_check_rows.proofs.Members.{each_gathered}
use Rattle.fb_check_rows.proofs.Systems.{devices_placed}
use Rattle.fb_faults.specs.declared.no_bound.NoBound.{NoBound}
use Rattle.fb_faults.specs.declared.no_bound.NoBound.TheVariants.{OutOfMemory, Cycle, NoRange, Limit}
use Rattle.fb_find_demands.specs.Prices.{AreClear, AreTables, HasClear}
use Rattle.fb_find.specs.Given.{IsGiven}
use Rattle.fb_find.specs.Columns.{IsCycle, FulfilsAll}
use Rattle.fb_model.specs.Finding.{asked}
use Rattle.fb_find.specs.Bounds.{IsNoBoundWithin, IsPathWithin}
use Rattle.fb_model.specs.Finding.{IsRuledOut, IsNeverBound, IsNoBound, IsNoBoundAt, IsNoBoundWith, IsUnclearRun, IsWalk}
use Rattle.fb_find.specs.Parts.{HasNumbering, HasRanges, HasTables, HaveTables, IsReady, table_in}
use Rattle.fb_find.proofs.Lists.{zip_length}
use Rattle.fb_find.proofs.Tabled.{tables_are}
use Rattle.fb_find_ranges.specs.FoundTables.{AreFoundTables}
use Rattle.fb_find_demands.specs.declared.numbered.Numbering.{Numbering}
use Rattle.fb_ranges.specs.Views.{spans_of}
use Rattle.fb_ranges.specs.declared.rows.Ranges.{Ranges}

-- the names of what stands in texts are words in capitals
capitals : (s : System) → IsWritten s → AllByRecursion IsCapitalDevice s.devices
capitals s (text, is) =
    let l = event_source_spelled in
    let x = is.source_is in
    capital EVENT_BLOCKS.now text l.0 x.0 most_nested most_nested_statements most_nested most_nested_statements event_source is.source s l.1 l.2 x.1 x.2 (with_event_trees is.source s is.typed)

pub given : (s : System) (devices : List FlatDevice) → IsWritten s → map flat_device devices ≡ map written_device s.devices → AllByRecursion FollowsFew s.devices → IsGiven devices s
given s devices w e few = record {
  library = event_trees;
  source = w.1.source;
  typed = with_event_trees w.1.source s w.1.typed;
  tables = written_tables s devices w e;
  words = words s w;
  capitals = capitals s w;
  followed = few;
}

-- numbers by the texts of rows are in the order of the rows
pub has_numbering : (repeats : Option ℕ) (devices : List FlatDevice) (n : Numbering) (s : System) → IsGiven devices s → AreRowsOf repeats (all_leaves s.devices) (names_of n.states) (names_of n.events) n.channels.items
    → map names_in (map string_bytes n.ends.items) ≡ map (end_of (all_leaves s.devices)) n.channels.items → names_of n.states ≡ gathered [] (texts_of Charge devices) → names_of n.events ≡ gathered [] (texts_of Weight devices)
    → HasNumbering repeats devices n s
has_numbering repeats devices n s given rows ends states events =
    let cs = states ∙ each_gathered (texts_of Charge devices) (charges_are_apart given.library given.source devices s given.typed given.tables given.words) in
    let ws = events ∙ each_gathered (texts_of Weight devices) (weights_are_apart given.library given.source devices s given.typed given.tables given.words) in
    record {
      numbered =
          record {
            given = given;
            rows = rows;
            ordered =
                record {
                  states_are = ap (map place_of) cs ∙ devices_placed Charge devices s.devices given.tables given.words;
                  events_are = ap (map place_of) ws ∙ devices_placed Weight devices s.devices given.tables given.words;
                };
          };
      states = cs;
      events = ws;
      ends = ends;
    }

kind_clear : (ranges : List Range) (all : List Leaf) (leaf : Leaf) (kind : Kind) → KindClears ranges all leaf.path leaf.source kind → HasClear (rows ranges leaf.path kind) kind
kind_clear ranges all leaf (Charted block) h = h.algorithms
kind_clear ranges all leaf (Serviced service) h = tt

clear_of : (ranges : List Range) (s : System) → AllClear ranges s → AreClear ranges (all_leaves s.devices)
clear_of ranges s h =
    on_all_leaves (λ (leaf : Leaf). HasClear (rows ranges leaf.path leaf.kind) leaf.kind) s.devices
    (all_weaker (λ (d : Device). AllByRecursion (LeafClears ranges (leaves d)) (leaves d)) (λ (d : Device). AllByRecursion (λ (leaf : Leaf). HasClear (rows ranges leaf.path leaf.kind) leaf.kind) (leaves d)) s.devices
    (λ d k. all_weaker (LeafClears ranges (leaves d)) (λ (leaf : Leaf). HasClear (rows ranges leaf.path leaf.kind) leaf.kind) (leaves d) (λ leaf c. kind_clear ranges (leaves d) leaf leaf.kind c) k) h)

-- the tables by the rows of a certificate
pub own_tables : (s : System) (devices : List FlatDevice) (cert : Certificate) (tables slice : List Ranges) → IsGiven devices s → map spans_of tables ≡ map (table_in cert) (flat_leaves devices) → slice ≡ tables → AreTables (certificate_of cert).ranges (map spans_of slice) (all_leaves s.devices)
own_tables s devices cert tables slice given are e = subst (λ ts. AreTables (certificate_of cert).ranges ts (all_leaves s.devices)) (sym (ap (map spans_of) e ∙ are)) (tables_are cert devices s given)

-- whose ranges are clear
pub has_tables : (s : System) (devices : List FlatDevice) (ranges : List Range) (cert : Certificate) (tables slice : List Ranges) → IsGiven devices s → HasRanges s ranges (rows_of cert) → map spans_of tables ≡ map (table_in cert) (flat_leaves devices) → slice ≡ tables → HasTables s ranges (map spans_of slice)
has_tables s devices ranges cert tables slice given has are e = record { tables_are = subst (λ rs. AreTables rs (map spans_of slice) (all_leaves s.devices)) has.are (own_tables s devices cert tables slice given are e); clear = clear_of ranges s has.clear }

-- such tables are those of all leaves
pub have_own : (s : System) (devices : List FlatDevice) (cert : Certificate) (tables slice : List Ranges) → IsGiven devices s → map spans_of tables ≡ map (table_in cert) (flat_leaves devices) → slice ≡ tables → HaveTables devices (map spans_of slice) s
have_own s devices cert tables slice given are e = record { given = given; many = zip_length _ (map spans_of slice) (all_leaves s.devices) (own_tables s devices cert tables slice given are e) }

-- and so are those that are found
pub found_read : (s : System) (tables slice : List Ranges) → slice ≡ tables → AreFoundTables s.devices (map spans_of tables) → AreFoundTables s.devices (map spans_of slice)
found_read s tables slice e found = subst (λ ts. AreFoundTables s.devices (map spans_of ts)) (sym e) found

pub have_found : (s : System) (devices : List FlatDevice) (slice : List Ranges) → IsGiven devices s → AreFoundTables s.devices (map spans_of slice) → HaveTables devices (map spans_of slice) s
have_found s devices slice given found = record { given = given; many = zip_length _ (map spans_of slice) (all_leaves s.devices) found.each }

pub cycle_told : (ranges : List Range) (repeats : Option ℕ) (s : System) (fault : NoBound) → IsCycle repeats s fault → IsNoBoundAt ranges repeats s fault
cycle_told ranges repeats s OutOfMemory h = tt
cycle_told ranges repeats s (Cycle places) h = h
cycle_told ranges repeats s (NoRange path) h = absurd h
cycle_told ranges repeats s (Limit resource) h = absurd h

asked_denies : (repeats : Option ℕ) (s : System) (walk : List Node) → IsClosedWalk (asked repeats s) walk → (cert : certs.Certificate) → IsRuledOut repeats cert → Fits s cert → ⊥
asked_denies None s walk h cert d fits = walks_exclude s cert walk h fits
asked_denies (Some r) s walk h cert d fits = networks_exclude s cert d.0 walk h d.1 d.2 fits

walk_denies : (Are : List Range → Type 0) (Fails : String Global → Type 0) (repeats : Option ℕ) (s : System) (fault : NoBound) → IsNoBoundWith Are Fails repeats s fault → IsWalk fault → (cert : certs.Certificate) → IsRuledOut repeats cert → Fits s cert → ⊥
walk_denies Are Fails repeats s OutOfMemory h w cert d fits = absurd w
walk_denies Are Fails repeats s (Cycle places) h w cert d fits = asked_denies repeats s (map node_of places.items) h.closed cert d fits
walk_denies Are Fails repeats s (NoRange path) h w cert d fits = absurd w
walk_denies Are Fails repeats s (Limit resource) h w cert d fits = absurd w

pub found_denies : (repeats : Option ℕ) (s : System) (fault : NoBound) → IsNoBound repeats s fault → IsWalk fault → (cert : certs.Certificate) → IsRuledOut repeats cert → Fits s cert → ⊥
found_denies repeats s fault h = walk_denies (AreFound s.devices) (λ path. (ranges : List Range) × AreFound s.devices ranges × IsUnclearRun ranges s path) repeats s fault h

pub within_denies : (given : Rows) (repeats : Option ℕ) (s : System) (fault : NoBound) → IsNoBoundWithin given repeats s fault → IsWalk fault → (cert : certs.Certificate) → IsRuledOut repeats cert → Fits s cert → ⊥
within_denies given repeats s fault h = walk_denies (AreTaken (range_rows given.ranges) s.devices) (IsPathWithin given repeats s) repeats s fault h

pub never_denies : (repeats : Option ℕ) (s : System) (fault : NoBound) → IsNeverBound repeats s fault → IsWalk fault → (cert : certs.Certificate) → IsRuledOut repeats cert → Fits s cert → ⊥
never_denies repeats s fault h = walk_denies (λ rs. ⊥) (λ path. ⊥) repeats s fault h

-- ---- read by other names

pub ready_is : (repeats : Option ℕ) (devices : List FlatDevice) (n : Numbering) (s : System) (order slice : List ℕ) → HasNumbering repeats devices n s → slice ≡ order → FulfilsAll repeats n s order → IsReady repeats devices n slice s
ready_is repeats devices n s order slice h e serves = record { numbering = h; serves = subst (λ o. FulfilsAll repeats n s o) (sym e) serves }
