-- Rows RANGE are added one after another.
use Rattle.std.specs.Prelude.{◌&&◌, ◌||◌}
use Rattle.std.proofs.Common.{ℕ, suc, ◌≡◌, ◌+◌, ◌≤◌, Bool, true, false, not, List, [], ◌∷◌, ◌++◌, drop, length, map, refl, sym, ap, ap₂, subst, ◌∙◌, append_assoc, arith, string_bytes, if◌then◌else◌}
use Rattle.std.specs.List.{All, AllByRecursion, AllZip, IsDistinct, flat_map}
use Rattle.std.specs.Str.{bytes_eq}
use Rattle.std.specs.declared.string.String.{String}
use Rattle.std.specs.declared.alloc.Global.{Global}
use Rattle.std.proofs.lemmas.List.{append-nil, map-append, drop_all}
use Rattle.std.proofs.lemmas.Grind.{flat_map-append}
use Rattle.std.proofs.lemmas.Slice.Zip.{AllZip-long}
use Rattle.fb_model.specs.Names.{Name, Path, Place}
use Rattle.fb_model.specs.System as book
use Rattle.fb_model.specs.System.{System}
use Rattle.fb_model.specs.Wires as wires
use Rattle.fb_model.specs.Wires.{Kind, Charted, Serviced, leaves}
use Rattle.fb_model.specs.Spelling.{AreWords}
use Rattle.fb_model.specs.Store.{variable_names}
use Rattle.fb_model.specs.Spans.{Span}
use Rattle.fb_model.specs.Clear.{Spans}
use Rattle.fb_model.specs.Ranges.{Range, variables}
use Rattle.fb_model.specs.Certificates.{all_leaves, is_boolean}
use Rattle.fb_model.specs.CertificateText.{names_in, range_row}
use Rattle.fb_model.proofs.Lists.{all_weaker}
use Rattle.fb_model.proofs.Names.{eq_turned}
use Rattle.fb_model.specs.FinderRanges as finder
use Rattle.fb_model_laws.specs.Words.{IsWordyLeaf, IsWordyDevice, declared_names}
use Rattle.fb_cert.specs.Adding.{is_upper_path}
use Rattle.fb_cert.specs.Views.{Table, Rows, has_path, range_rows}
use Rattle.fb_types_blocks.specs.declared.typed.Variable.{Variable}
use Rattle.fb_flat.specs.declared.flat.Leaf.{Leaf}
use Rattle.fb_flat.specs.declared.flat.FlatResource.{FlatResource}
use Rattle.fb_flat.specs.declared.flat.FlatDevice.{FlatDevice}
use Rattle.fb_flat.specs.Leaves.{kind_of}
use Rattle.fb_flat.specs.Sites.{dotted}
use Rattle.fb_flat.specs.Tables.{IsLeaf, AreLeaves, AreDevices}
use Rattle.fb_flat.proofs.Dotted.{placed_at}
use Rattle.fb_check_ranges.specs.Places.{leaves_in}
use Rattle.fb_check_ranges.proofs.Placing.{device_leaves}
use Rattle.fb_find_ranges.specs.Found.{spelled}
use Rattle.fb_check_rows.specs.declared.kind.RowKind.TheVariants as kinds
use Rattle.fb_check_rows.specs.Texts.{paths, ranged_names, range_names, leaf_texts, texts_in, resource_texts, texts_of}
use Rattle.fb_check_rows.proofs.Tables.{listed}
use Rattle.fb_find_ranges.proofs.Distinct.{on_all_leaves}
use Rattle.fb_find_ranges.proofs.Tabled.{zip_join}
use Rattle.fb_find_ranges.specs.AddedRows.{variable_rows, kind_rows, leaf_rows, all_rows, flat_leaves, added, adding, AddsRanges}

-- ---- one after another

pub rows_join : (s : Spans) (p : Name) (vs ws : List book.Variable) → variable_rows s p (vs ++ ws) ≡ variable_rows s p vs ++ variable_rows s p ws
rows_join s p [] ws = refl
rows_join s p (v ∷ vs) ws = by (is_boolean v.type) (rows_join s p vs ws) where
  by : (b : Bool) → variable_rows s p (vs ++ ws) ≡ variable_rows s p vs ++ variable_rows s p ws
      → (if b then variable_rows s p (vs ++ ws) else (dotted p v.name, s v.name) ∷ variable_rows s p (vs ++ ws)) ≡ (if b then variable_rows s p vs else (dotted p v.name, s v.name) ∷ variable_rows s p vs) ++ variable_rows s p ws
  by true e = e
  by false e = ap (λ rs. (dotted p v.name, s v.name) ∷ rs) e

pub adding_join : (xs ys : Table Span) (rows : Rows) → adding (xs ++ ys) rows ≡ adding ys (adding xs rows)
adding_join [] ys rows = refl
adding_join (x ∷ xs) ys rows = adding_join xs ys (added x rows)

-- a variable's row, and then those behind it
pub next_variable : (s : Spans) (p : Name) (xs : List (String Global × Variable)) (i : ℕ) (x : String Global × Variable) (old new whole : Rows) → drop i xs ≡ x ∷ drop (i + 1) xs
    → new ≡ adding (variable_rows s p (listed (x ∷ []))) old → adding (variable_rows s p (listed (drop i xs))) old ≡ whole → adding (variable_rows s p (listed (drop (i + 1) xs))) new ≡ whole
next_variable s p xs i x old new whole e n k =
    let rest = listed (drop (i + 1) xs) in
    ap (adding (variable_rows s p rest)) n ∙ sym (adding_join (variable_rows s p (listed (x ∷ []))) (variable_rows s p rest) old) ∙ ap (λ rs. adding rs old) (sym (rows_join s p (listed (x ∷ [])) rest))
    ∙ ap (λ ys. adding (variable_rows s p (listed ys)) old) (sym e) ∙ k

-- the rows of a block: inputs, outputs, internal variables
pub block_added : (s : Spans) (p : Name) (ins outs inner : List book.Variable) (old first second new : Rows) → first ≡ adding (variable_rows s p ins) old → second ≡ adding (variable_rows s p outs) first
    → new ≡ adding (variable_rows s p inner) second → new ≡ adding (variable_rows s p (ins ++ (outs ++ inner))) old
block_added s p ins outs inner old first second new a b c =
    let xs = variable_rows s p ins in
    let ys = variable_rows s p outs in
    let zs = variable_rows s p inner in
    c ∙ ap (adding zs) b ∙ ap (λ r. adding zs (adding ys r)) a
    ∙ sym (ap (λ rs. adding rs old) (rows_join s p ins (outs ++ inner) ∙ ap (λ rs. xs ++ rs) (rows_join s p outs inner)) ∙ adding_join xs (ys ++ zs) old ∙ adding_join ys zs (adding xs old))

-- a leaf's rows, and then those behind it
pub next_leaf : {T L : Type 0} (f : T → Spans) (g : L → Leaf) (ts : List T) (ls : List L) (i : ℕ) (t : T) (l : L) (old new whole : Rows) → drop i ts ≡ t ∷ drop (i + 1) ts → drop i ls ≡ l ∷ drop (i + 1) ls → new ≡ adding (leaf_rows (f t) (g l)) old
    → adding (all_rows (map f (drop i ts)) (map g (drop i ls))) old ≡ whole → adding (all_rows (map f (drop (i + 1) ts)) (map g (drop (i + 1) ls))) new ≡ whole
next_leaf f g ts ls i t l old new whole a b n k =
    let rest = all_rows (map f (drop (i + 1) ts)) (map g (drop (i + 1) ls)) in
    ap (adding rest) n ∙ sym (adding_join (leaf_rows (f t) (g l)) rest old) ∙ ap₂ (λ xs ys. adding (all_rows (map f xs) (map g ys)) old) (sym a) (sym b) ∙ k

no_leaves : (ss : List Spans) → all_rows ss [] ≡ []
no_leaves [] = refl
no_leaves (s ∷ ss) = refl

-- when no leaf is left, all rows are there
pub last_leaf : {L : Type 0} (g : L → Leaf) (ss : List Spans) (ls : List L) (i : ℕ) (old whole : Rows) → length ls ≤ i → adding (all_rows ss (map g (drop i ls))) old ≡ whole → old ≡ whole
last_leaf g ss ls i old whole h k = sym (ap (λ rs. adding rs old) (ap (λ xs. all_rows ss (map g xs)) (drop_all i ls h) ∙ no_leaves ss)) ∙ k

-- ---- rows on new paths

abbrev with_ranges : Table Span → Rows → Rows
with_ranges rs rows = record rows { ranges = rs }

-- a row that a text can say, on a path that stands in no row, is added
one_added : (r : Name × Span) (rows : Rows) → is_upper_path r.0 ≡ true → has_path r.0 rows.ranges ≡ false → added r rows ≡ with_ranges (rows.ranges ++ r ∷ []) rows
one_added r rows u h = by (is_upper_path r.0) (has_path r.0 rows.ranges) u h where
  by : (a b : Bool) → a ≡ true → b ≡ false → (if a && not b then with_ranges (rows.ranges ++ r ∷ []) rows else rows) ≡ with_ranges (rows.ranges ++ r ∷ []) rows
  by true false e f = refl
  by true true e f = absurd cc
  by false b e f = absurd cc

path_behind : (p : Name) (rs : Table Span) (r : Name × Span) → has_path p rs ≡ false → bytes_eq r.0 p ≡ false → has_path p (rs ++ r ∷ []) ≡ false
path_behind p [] r h d = ap (λ b. b || false) (eq_turned p r.0 ∙ d)
path_behind p (x ∷ rs) r h d = by (bytes_eq p x.0) h (λ k. path_behind p rs r k d) where
  by : (b : Bool) → (b || has_path p rs) ≡ false → (has_path p rs ≡ false → has_path p (rs ++ r ∷ []) ≡ false) → (b || has_path p (rs ++ r ∷ [])) ≡ false
  by true e next = absurd cc
  by false e next = next e

-- none of these paths stands in a row
abbrev AreNew : Table Span → Table Span → Type 0
AreNew old rs = AllByRecursion (λ (r : Name × Span). has_path r.0 old ≡ false) rs

new_behind : (old : Table Span) (r : Name × Span) (rs : Table Span) → AreNew old rs → AllByRecursion (λ p. bytes_eq r.0 p ≡ false) (paths rs) → AreNew (old ++ r ∷ []) rs
new_behind old r [] h d = tt
new_behind old r (x ∷ rs) h d = (path_behind x.0 old r h.0 d.0, new_behind old r rs h.1 d.1)

all_added : (rs : Table Span) (rows : Rows) → IsDistinct bytes_eq (paths rs) → AllByRecursion (λ (r : Name × Span). is_upper_path r.0 ≡ true) rs → AreNew rows.ranges rs → adding rs rows ≡ with_ranges (rows.ranges ++ rs) rows
unfolding IsDistinct
all_added [] rows d u n = ap (λ (rs : Table Span). with_ranges rs rows) (sym (append-nil rows.ranges))
all_added (r ∷ rs) rows d u n =
    ap (adding rs) (one_added r rows u.0 n.0)
    ∙ all_added rs (with_ranges (rows.ranges ++ r ∷ []) rows) d.1 u.1 (new_behind rows.ranges r rs n.1 d.0)
    ∙ ap (λ (xs : Table Span). with_ranges xs rows) (append_assoc rows.ranges (r ∷ []) rs)

none_stands : (rs : Table Span) → AreNew [] rs
none_stands [] = tt
none_stands (r ∷ rs) = (refl, none_stands rs)

-- ---- the texts of rows

variable_texts : (s : Spans) (p : Name) (vs : List book.Variable) → paths (variable_rows s p vs) ≡ texts_in p (ranged_names vs)
variable_texts s p [] = refl
variable_texts s p (v ∷ vs) = by (is_boolean v.type) (variable_texts s p vs) where
  by : (b : Bool) → paths (variable_rows s p vs) ≡ texts_in p (ranged_names vs)
      → paths (if b then variable_rows s p vs else (dotted p v.name, s v.name) ∷ variable_rows s p vs) ≡ texts_in p (if b then ranged_names vs else v.name ∷ ranged_names vs)
  by true e = e
  by false e = ap (λ ts. dotted p v.name ∷ ts) e

names_join : (vs ws : List book.Variable) → ranged_names (vs ++ ws) ≡ ranged_names vs ++ ranged_names ws
names_join [] ws = refl
names_join (v ∷ vs) ws = by (is_boolean v.type) (names_join vs ws) where
  by : (b : Bool) → ranged_names (vs ++ ws) ≡ ranged_names vs ++ ranged_names ws → (if b then ranged_names (vs ++ ws) else v.name ∷ ranged_names (vs ++ ws)) ≡ (if b then ranged_names vs else v.name ∷ ranged_names vs) ++ ranged_names ws
  by true e = e
  by false e = ap (λ ns. v.name ∷ ns) e

kind_texts : (s : Spans) (p : Name) (kind : Kind) → paths (kind_rows s p kind) ≡ texts_in p (range_names kind)
kind_texts s p (Charted block) =
    variable_texts s p (variables (Charted block))
    ∙ ap (texts_in p)
    (names_join block.inputs (block.outputs ++ block.internals) ∙ ap (λ ns. ranged_names block.inputs ++ ns) (names_join block.outputs block.internals)
    ∙ sym (append_assoc (ranged_names block.inputs) (ranged_names block.outputs) (ranged_names block.internals)))
kind_texts s p (Serviced service) = refl

leaf_paths : (ss : List Spans) (ls : List Leaf) → length ss ≡ length ls → paths (all_rows ss ls) ≡ flat_map (leaf_texts kinds.Range) ls
leaf_paths [] [] e = refl
leaf_paths [] (l ∷ ls) e = absurd (omega (arith, e))
leaf_paths (s ∷ ss) [] e = absurd (omega (arith, e))
leaf_paths (s ∷ ss) (l ∷ ls) e =
    map-append (λ (r : Name × Span). r.0) (leaf_rows s l) (all_rows ss ls) ∙ ap₂ (λ (xs ys : List Name). xs ++ ys) (kind_texts s (string_bytes l.path) (kind_of l.body)) (leaf_paths ss ls (omega (arith, e)))

resource_paths : (rs : List FlatResource) → flat_map (leaf_texts kinds.Range) (leaves_in rs) ≡ flat_map (resource_texts kinds.Range) rs
resource_paths [] = refl
resource_paths (r ∷ rs) = flat_map-append (leaf_texts kinds.Range) r.leaves.items (leaves_in rs) ∙ ap (λ ts. flat_map (leaf_texts kinds.Range) r.leaves.items ++ ts) (resource_paths rs)

device_paths : (fs : List FlatDevice) → flat_map (leaf_texts kinds.Range) (flat_leaves fs) ≡ texts_of kinds.Range fs
device_paths [] = refl
device_paths (f ∷ fs) =
    flat_map-append (leaf_texts kinds.Range) (leaves_in f.resources.items) (flat_leaves fs) ∙ ap₂ (λ (xs ys : List Name). xs ++ ys) (resource_paths f.resources.items) (device_paths fs)

-- ---- rows in the book's form

shown_rows : (s : Spans) (p : Name) (path : Path) (vs : List book.Variable) → names_in p ≡ path → AreWords (variable_names vs) → range_rows (variable_rows s p vs) ≡ finder.rows_by (λ v. s v.name) path vs
shown_rows s p path [] e w = refl
shown_rows s p path (v ∷ vs) e w = by (is_boolean v.type) (shown_rows s p path vs e w.1) where
  here : range_rows ((dotted p v.name, s v.name) ∷ []) ≡ finder.range_row path v.name (s v.name) ∷ []
  here = ap (λ (q : Place). record { path = q.path; variable = q.event; low = (s v.name).low; high = (s v.name).high } ∷ []) (placed_at p v.name w.0) ∙ ap (λ (q : Path). finder.range_row q v.name (s v.name) ∷ []) e

  by : (b : Bool) → range_rows (variable_rows s p vs) ≡ finder.rows_by (λ v. s v.name) path vs
      → range_rows (if b then variable_rows s p vs else (dotted p v.name, s v.name) ∷ variable_rows s p vs) ≡ (if b then finder.rows_by (λ v. s v.name) path vs else finder.range_row path v.name (s v.name) ∷ finder.rows_by (λ v. s v.name) path vs)
  by true k = k
  by false k = ap₂ (λ (xs ys : List Range). xs ++ ys) here k

shown_kind : (s : Spans) (p : Name) (path : Path) (kind : Kind) → names_in p ≡ path → AreWords (declared_names kind) → range_rows (kind_rows s p kind) ≡ finder.kind_rows (λ v. s v.name) path kind
shown_kind s p path (Charted block) e w = shown_rows s p path (variables (Charted block)) e w
shown_kind s p path (Serviced service) e w = refl

shown_leaf : (s : Spans) (l : Leaf) (leaf : wires.Leaf) → IsLeaf l leaf → IsWordyLeaf leaf → range_rows (leaf_rows s l) ≡ finder.kind_rows (λ v. s v.name) leaf.path leaf.kind
shown_leaf s l leaf h w = ap (λ (k : Kind). range_rows (kind_rows s (string_bytes l.path) k)) h.kind ∙ shown_kind s (string_bytes l.path) leaf.path leaf.kind h.path w.variables

shown_all : (ss : List Spans) (ls : List Leaf) (bs : List wires.Leaf) → AllZip IsLeaf ls bs → AllByRecursion IsWordyLeaf bs → range_rows (all_rows ss ls) ≡ spelled ss bs
shown_all [] ls bs h w = refl
shown_all (s ∷ ss) [] [] h w = refl
shown_all (s ∷ ss) [] (b ∷ bs) h w = absurd h
shown_all (s ∷ ss) (l ∷ ls) [] h w = absurd h
shown_all (s ∷ ss) (l ∷ ls) (b ∷ bs) h w =
    map-append (λ (r : Name × Span). range_row r.0 r.1.low r.1.high) (leaf_rows s l) (all_rows ss ls) ∙ ap₂ (λ (xs ys : List Range). xs ++ ys) (shown_leaf s l b h.0 w.0) (shown_all ss ls bs h.1 w.1)

-- ---- all devices

one_by_one : (ls : List Leaf) (bs : List wires.Leaf) → AreLeaves ls bs → AllZip IsLeaf ls bs
one_by_one [] [] h = tt
one_by_one [] (b ∷ bs) h = absurd h
one_by_one (l ∷ ls) [] h = absurd h
one_by_one (l ∷ ls) (b ∷ bs) h = (h.0, one_by_one ls bs h.1)

-- the leaves of the tables of all devices are those of the system
all_leaves_are : (fs : List FlatDevice) (ds : List book.Device) → AreDevices fs ds → AllZip IsLeaf (flat_leaves fs) (all_leaves ds)
all_leaves_are [] [] h = tt
all_leaves_are [] (d ∷ ds) h = absurd h
all_leaves_are (f ∷ fs) [] h = absurd h
all_leaves_are (f ∷ fs) (d ∷ ds) h =
    zip_join IsLeaf (leaves_in f.resources.items) (leaves d) (flat_leaves fs) (all_leaves ds) (one_by_one (leaves_in f.resources.items) (leaves d) (device_leaves 0 (d.name ∷ []) f.resources.items d.resources h.0.resources)) (all_leaves_are fs ds h.1)

wordy : (ds : List book.Device) → AllByRecursion IsWordyDevice ds → AllByRecursion IsWordyLeaf (all_leaves ds)
wordy ds plain = on_all_leaves IsWordyLeaf ds (all_weaker IsWordyDevice (λ (d : book.Device). AllByRecursion IsWordyLeaf (leaves d)) ds (λ d w. w.leaves) plain)

upper_rows : (rs : Table Span) → All (λ t. is_upper_path t ≡ true) (paths rs) → AllByRecursion (λ (r : Name × Span). is_upper_path r.0 ≡ true) rs
upper_rows [] h = tt
upper_rows (r ∷ rs) h = (h 0 [] (omega arith), upper_rows rs (λ i d l. h (suc i) d (omega (arith, l))))

-- the rows of all leaves are added
pub ranges_added : (fs : List FlatDevice) (s : System) (ss : List Spans) (old new : Rows) → AreDevices fs s.devices → AllByRecursion IsWordyDevice s.devices → All (λ t. is_upper_path t ≡ true) (texts_of kinds.Range fs) → IsDistinct bytes_eq (texts_of kinds.Range fs)
    → old.ranges ≡ [] → length ss ≡ length (all_leaves s.devices) → new ≡ adding (all_rows ss (flat_leaves fs)) old → AddsRanges (spelled ss (all_leaves s.devices)) old new
ranges_added fs s ss old new are plain up apart none many e =
    let rs = all_rows ss (flat_leaves fs) in
    let is = all_leaves_are fs s.devices are in
    let texts : paths rs ≡ texts_of kinds.Range fs = leaf_paths ss (flat_leaves fs) (many ∙ AllZip-long IsLeaf (flat_leaves fs) (all_leaves s.devices) is) ∙ device_paths fs in
    let made : new ≡ with_ranges rs old =
    e ∙ all_added rs old (subst (IsDistinct bytes_eq) (sym texts) apart) (upper_rows rs (subst (All (λ t. is_upper_path t ≡ true)) (sym texts) up)) (subst (λ (o : Table Span). AreNew o rs) (sym none) (none_stands rs))
    ∙ ap (λ (o : Table Span). with_ranges (o ++ rs) old) none in
    record {
      ranges_are = ap (λ (r : Rows). range_rows r.ranges) made ∙ shown_all ss (flat_leaves fs) (all_leaves s.devices) is (wordy s.devices plain);
      charges_same = ap (λ (r : Rows). r.charges) made;
      weights_same = ap (λ (r : Rows). r.weights) made;
      depths_same = ap (λ (r : Rows). r.depths) made;
      repeats_same = ap (λ (r : Rows). r.repeats) made;
      fars_same = ap (λ (r : Rows). r.fars) made;
      far_states_same = ap (λ (r : Rows). r.far_states) made;
      channels_same = ap (λ (r : Rows). r.channels) made;
    }
