-- Under the ranges that are found, rows hold what variables have at first and what they take: only algorithms and guards may be unclear.
use Rattle.std.proofs.Common.{ℕ, ◌≡◌, Option, true, inl, inr, refl, sym, ap, subst, ◌∙◌, List, [], ◌∷◌, ◌++◌, string_bytes}
use Rattle.std.specs.Str.{bytes_eq}
use Rattle.std.specs.List.{All, AllByRecursion, Any, IsDistinct}
use Rattle.fb_model.specs.Clear.{Spans}
use Rattle.fb_model.specs.Names.{Name, Path}
use Rattle.fb_model.specs.System.{Block, Device, Variable, System, start_of}
use Rattle.fb_model.specs.Store.{first_input}
use Rattle.fb_model.specs.Wires.{Kind, Charted, Serviced, Leaf, leaves, Source}
use Rattle.fb_model.specs.Ranges.{HoldsIn, Range, row_at, SourceFits}
use Rattle.fb_model.specs.Spans.{within, whole}
use Rattle.fb_model.specs.Certificates.{all_leaves}
use Rattle.fb_model.proofs.Lists.{all_both}
use Rattle.fb_model_laws.specs.Words.{IsWordyDevice, IsWordyLeaf}
use Rattle.fb_model_laws.specs.Leaves.{IsClosed}
use Rattle.fb_model_laws.proofs.Closed.{all_charts_closed}
use Rattle.fb_model_laws.specs.Holding.{ChartBegins, LeafIsFed, LeafIsGood}
use Rattle.fb_model_laws.proofs.Among.{found_rows_hold}
use Rattle.fb_model_laws.proofs.Beginning.{good_rows_begin, RowsBegin}
use Rattle.fb_cert.specs.Adding.{is_upper_path}
use Rattle.fb_cert.specs.Views.{no_rows, range_rows, Rows}
use Rattle.fb_flat.specs.declared.flat.FlatDevice.{FlatDevice}
use Rattle.fb_faults.specs.declared.unclear.Unclear.{Unclear}
use Rattle.fb_faults.specs.declared.unclear.Unclear.TheVariants as unclear
use Rattle.fb_model.specs.Misfits.{Begins}
use Rattle.fb_check_ranges.specs.Fitting.{AreKnown, IsKnownLeaf}
use Rattle.fb_model.specs.Misfits.{AllClear, ChartFails, IsUnclear, KindFails, LeafFails}
use Rattle.fb_model.specs.Misfits.{Reason, Starts, Links}
use Rattle.fb_find_ranges.specs.Found.{spelled}
use Rattle.fb_check_rows.specs.declared.kind.RowKind.TheVariants as rows_of_kind
use Rattle.fb_check_rows.specs.Texts.{texts_of}
use Rattle.fb_find_ranges.specs.AddedRows.{AddsRanges}
use Rattle.fb_find_ranges.specs.FoundTables.{AreFoundTables}
use Rattle.fb_find_ranges.proofs.Capitals.{rows_have_capitals}
use Rattle.fb_find_ranges.proofs.Distinct.{ranges_are_apart}
use Rattle.fb_find.specs.Given.{IsGiven}
use Rattle.fb_faults.specs.declared.no_bound.NoBound.{NoBound}
use Rattle.fb_faults.specs.declared.no_bound.NoBound.TheVariants.{OutOfMemory, Cycle, NoRange, Limit}
use Rattle.fb_model.specs.FinderRanges.{AreFound}
use Rattle.fb_model.specs.Finding.{IsNoBound, IsNoBoundAt}
use Rattle.fb_find.specs.Parts.{HasRanges, HaveTables, told_of}
use Rattle.fb_find.proofs.Lists.{none_lacks}
use Rattle.fb_find.proofs.Taking.{above_weaker, spelled_places}

-- ---- a chart

all_parts : {X : Type 0} (P : X → Type 0) (xs ys : List X) → AllByRecursion P (xs ++ ys) → AllByRecursion P xs × AllByRecursion P ys
all_parts P [] ys h = (tt, h)
all_parts P (x ∷ xs) ys h = let r = all_parts P xs ys h.1 in ((h.0, r.0), r.1)

chart_starts : (ranges : List Range) (all : List Leaf) (path : Path) (source : Name → Source) (block : Block) (x : Name) → ChartBegins ranges all path source block → ChartFails ranges all path source block Starts x → ⊥
chart_starts ranges all path source block x b h =
    let fits = all_parts (λ (v : Variable). within (row_at ranges path v) (whole v.type) ≡ true) block.inputs (block.outputs ++ block.internals) b.rows_fit in
    let rest = all_parts (λ (v : Variable). within (row_at ranges path v) (whole v.type) ≡ true) block.outputs block.internals fits.1 in
    let held = all_parts (λ (v : Variable). HoldsIn (row_at ranges path v) (start_of v)) block.outputs block.internals b.others_begin in
    elim h [
      | inl i ↦
          none_lacks (λ (v : Variable). Begins (row_at ranges path v) v.type (first_input (source v.name) (start_of v))) (λ (v : Variable). (v.name ≡ x) × (Begins (row_at ranges path v) v.type (first_input (source v.name) (start_of v)) → ⊥)) block.inputs
          (λ v p q. q.1 p)
          (all_both (λ (v : Variable). within (row_at ranges path v) (whole v.type) ≡ true) (λ (v : Variable). HoldsIn (row_at ranges path v) (first_input (source v.name) (start_of v))) (λ (v : Variable). Begins (row_at ranges path v) v.type (first_input (source v.name) (start_of v))) block.inputs (λ v p q. (p, q)) fits.0 b.inputs_begin)
          i
      | inr (inl o) ↦
          none_lacks (λ (v : Variable). Begins (row_at ranges path v) v.type (start_of v)) (λ (v : Variable). (v.name ≡ x) × (Begins (row_at ranges path v) v.type (start_of v) → ⊥)) block.outputs (λ v p q. q.1 p)
          (all_both (λ (v : Variable). within (row_at ranges path v) (whole v.type) ≡ true) (λ (v : Variable). HoldsIn (row_at ranges path v) (start_of v)) (λ (v : Variable). Begins (row_at ranges path v) v.type (start_of v)) block.outputs (λ v p q. (p, q)) rest.0 held.0) o
      | inr (inr o) ↦
          none_lacks (λ (v : Variable). Begins (row_at ranges path v) v.type (start_of v)) (λ (v : Variable). (v.name ≡ x) × (Begins (row_at ranges path v) v.type (start_of v) → ⊥)) block.internals (λ v p q. q.1 p)
          (all_both (λ (v : Variable). within (row_at ranges path v) (whole v.type) ≡ true) (λ (v : Variable). HoldsIn (row_at ranges path v) (start_of v)) (λ (v : Variable). Begins (row_at ranges path v) v.type (start_of v)) block.internals (λ v p q. (p, q)) rest.1 held.1) o
    ]

chart_links : (ranges : List Range) (all : List Leaf) (path : Path) (source : Name → Source) (block : Block) (x : Name) → ChartBegins ranges all path source block → ChartFails ranges all path source block Links x → ⊥
chart_links ranges all path source block x b h =
    none_lacks (λ (v : Variable). SourceFits ranges all (row_at ranges path v) (source v.name)) (λ (v : Variable). (v.name ≡ x) × (SourceFits ranges all (row_at ranges path v) (source v.name) → ⊥)) block.inputs (λ v p q. q.1 p) b.links h

-- ---- a system

abbrev LeafBegins : List Range → List Leaf → Leaf → Type 0
LeafBegins ranges all leaf = (block : Block) → leaf.kind ≡ Charted block → ChartBegins ranges all leaf.path leaf.source block

kind_starts : (ranges : List Range) (all : List Leaf) (leaf : Leaf) (kind : Kind) (x : Name) → leaf.kind ≡ kind → LeafBegins ranges all leaf → KindFails ranges all leaf.path leaf.source kind Starts x → ⊥
kind_starts ranges all leaf (Charted block) x e b h = chart_starts ranges all leaf.path leaf.source block x (b block e) h
kind_starts ranges all leaf (Serviced service) x e b h = h

kind_links : (ranges : List Range) (all : List Leaf) (leaf : Leaf) (kind : Kind) (x : Name) → leaf.kind ≡ kind → LeafBegins ranges all leaf → KindFails ranges all leaf.path leaf.source kind Links x → ⊥
kind_links ranges all leaf (Charted block) x e b h = chart_links ranges all leaf.path leaf.source block x (b block e) h
kind_links ranges all leaf (Serviced service) x e b h = h

module _ (devices : List FlatDevice) (s : System) (given : IsGiven devices s) where
  pub known : AreKnown s
  known =
      by s.devices given.words (all_charts_closed given.library given.source s given.typed)
    where
      by : (ds : List Device) → AllByRecursion IsWordyDevice ds → AllByRecursion (λ (d : Device). AllByRecursion (λ (leaf : Leaf). IsClosed leaf.kind) (leaves d)) ds → AllByRecursion (λ (d : Device). AllByRecursion IsKnownLeaf (leaves d)) ds
      by [] w c = tt
      by (d ∷ ds) w c = (all_both IsWordyLeaf (λ (leaf : Leaf). IsClosed leaf.kind) IsKnownLeaf (leaves d) (λ leaf a b. record { words = a; closed = b }) w.0.leaves c.0, by ds w.1 c.1)

  pub upper_texts : All (λ t. is_upper_path t ≡ true) (texts_of rows_of_kind.Range devices)
  upper_texts = rows_have_capitals rows_of_kind.Range devices s given.tables given.capitals

  pub apart_texts : IsDistinct bytes_eq (texts_of rows_of_kind.Range devices)
  apart_texts = ranges_are_apart given.library given.source devices s given.typed given.tables given.words

  pub has_ranges : (tables : List Spans) → HaveTables devices tables s → (old now : Rows) → old ≡ no_rows → AddsRanges (spelled tables (all_leaves s.devices)) old now → AllClear (range_rows now.ranges) s → HasRanges s (spelled tables (all_leaves s.devices)) now
  has_ranges tables have old now e adds clear = record {
    places = spelled_places tables (all_leaves s.devices) have.many;
    are = adds.ranges_are;
    clear = subst (λ (rs : List Range). AllClear rs s) adds.ranges_are clear;
    no_charge = adds.charges_same ∙ ap (λ (rows : Rows). rows.charges) e;
    no_weight = adds.weights_same ∙ ap (λ (rows : Rows). rows.weights) e;
    no_depth = adds.depths_same ∙ ap (λ (rows : Rows). rows.depths) e;
    no_repeats = adds.repeats_same ∙ ap (λ (rows : Rows). rows.repeats) e;
    no_far = adds.fars_same ∙ ap (λ (rows : Rows). rows.fars) e;
    no_far_state = adds.far_states_same ∙ ap (λ (rows : Rows). rows.far_states) e;
    no_channel = adds.channels_same ∙ ap (λ (rows : Rows). rows.channels) e;
  }

  -- under the ranges that are found a refusal names an algorithm or a guard
  module _ (tables : List Spans) (found : AreFoundTables s.devices tables) where
    abbrev ranges : List Range
    ranges = spelled tables (all_leaves s.devices)

    all_begin : AllByRecursion (λ (d : Device). AllByRecursion (LeafBegins ranges (leaves d)) (leaves d)) s.devices
    all_begin =
        all_both (λ (d : Device). AllByRecursion RowsBegin (leaves d)) (λ (d : Device). AllByRecursion (λ (leaf : Leaf). LeafIsGood ranges leaf × LeafIsFed ranges (leaves d) leaf) (leaves d)) (λ (d : Device). AllByRecursion (LeafBegins ranges (leaves d)) (leaves d)) s.devices
        (λ d begins holds. all_both RowsBegin (λ (leaf : Leaf). LeafIsGood ranges leaf × LeafIsFed ranges (leaves d) leaf) (LeafBegins ranges (leaves d)) (leaves d) (λ leaf b h block is. b ranges (leaves d) block is h.0 h.1) begins holds)
        (good_rows_begin given.library given.source s given.typed) (found_rows_hold given.library given.source s ranges given.typed found.found)

    no_reason : (reason : Reason) (path : Name) → ((all : List Leaf) (leaf : Leaf) (kind : Kind) (x : Name) → leaf.kind ≡ kind → LeafBegins ranges all leaf → KindFails ranges all leaf.path leaf.source kind reason x → ⊥)
        → Any (λ (d : Device). Any (λ (leaf : Leaf). LeafFails ranges (leaves d) leaf reason path) (leaves d)) s.devices → ⊥
    no_reason reason path deny h =
        none_lacks (λ (d : Device). AllByRecursion (LeafBegins ranges (leaves d)) (leaves d)) (λ (d : Device). Any (λ (leaf : Leaf). LeafFails ranges (leaves d) leaf reason path) (leaves d)) s.devices
        (λ d a. none_lacks (LeafBegins ranges (leaves d)) (λ (leaf : Leaf). LeafFails ranges (leaves d) leaf reason path) (leaves d) (λ leaf b f. deny (leaves d) leaf leaf.kind f.0 refl b f.2) a)
        all_begin h

    pub found_told : (repeats : Option ℕ) (fault : NoBound) → IsNoBoundAt ranges repeats s fault → IsNoBound repeats s fault
    found_told repeats OutOfMemory h = tt
    found_told repeats (Cycle places) h = h
    found_told repeats (Limit resource) h = above_weaker (λ rs. rs ≡ ranges) (AreFound s.devices) repeats s (string_bytes resource) (λ rs e. subst (AreFound s.devices) (sym e) found.found) h
    found_told repeats (NoRange path) h = elim h [
      | inl (inl u) ↦ absurd (no_reason Starts (string_bytes path) (kind_starts ranges) u)
      | inl (inr u) ↦ absurd (no_reason Links (string_bytes path) (kind_links ranges) u)
      | inr u ↦ (ranges, found.found, u)
    ]

-- what a refusal tells
pub told : (s : System) (ranges : List Range) (repeats : Option ℕ) (now : Rows) (fault : Unclear) → range_rows now.ranges ≡ ranges → IsUnclear (range_rows now.ranges) s fault → IsNoBoundAt ranges repeats s (told_of fault)
told s ranges repeats now fault e h = by fault (subst (λ (rs : List Range). IsUnclear rs s fault) e h) where
  by : (f : Unclear) → IsUnclear ranges s f → IsNoBoundAt ranges repeats s (told_of f)
  by unclear.OutOfMemory u = tt
  by (unclear.Start path) u = inl (inl u)
  by (unclear.Link path) u = inl (inr u)
  by (unclear.Kept path) u = inr (inl u)
  by (unclear.IndexOrDivisor path) u = inr (inr u)
