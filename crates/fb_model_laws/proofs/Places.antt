-- The rows of rounds are rows of leaves, whatever the ranges.
use Rattle.std.proofs.Common.{ℕ, ◌≡◌, ◌+◌, Bool, true, false, List, [], ◌∷◌, ◌++◌, refl, sym, ap, ap₂, ◌∙◌, append_assoc, if◌then◌else◌}
use Rattle.fb_model.specs.Names.{Path, Place, at_place}
use Rattle.fb_model.specs.Values.{numbers_of}
use Rattle.fb_model.specs.System.{Variable, Device}
use Rattle.fb_model.specs.Wires.{Kind, Charted, Serviced, Leaf, leaves}
use Rattle.fb_model.specs.Spans.{Span}
use Rattle.fb_model.specs.Ranges.{Range, variables, row_of}
use Rattle.fb_model.specs.Certificates.{is_boolean, all_leaves, ranged_variables, of_kind, ranged, range_places}
use Rattle.fb_model.specs.FinderRanges.{held, first_value, range_row, rows_by, kind_rows, leaf_rows, asked, widened, round, start_rows, Settles, ends, goes_on, IsLast, AreFound, no_device, a_device}
use Rattle.fb_model_laws.proofs.Rounding.{one_end}

-- what holds of all rows that leaves are given holds of those of the last round
settled_rows : (P : List Range → Type 0) (all : List Leaf) → ((f : Leaf → Variable → Span) → P (leaf_rows f all)) → (n : ℕ) (xs zs : List Range) → P xs → Settles all n xs zs → P zs
settled_rows P all given n xs zs h (ends e) = h
settled_rows P all given n xs zs h (goes_on d s) = settled_rows P all given (n + 1) (round n all xs) zs (given (λ leaf v. widened n v.type (row_of xs leaf.path leaf.kind v) (asked xs all leaf v))) s

pub last_rows : (P : List Range → Type 0) (all : List Leaf) → ((f : Leaf → Variable → Span) → P (leaf_rows f all)) → (zs : List Range) → IsLast all zs → P zs
last_rows P all given zs s = settled_rows P all given 1 (start_rows all) zs (given (λ leaf v. held (numbers_of (first_value leaf v)))) s

-- ---- places

places_join : (xs ys : List Range) → range_places (xs ++ ys) ≡ range_places xs ++ range_places ys
places_join [] ys = refl
places_join (x ∷ xs) ys = ap (λ ps. at_place x.path x.variable ∷ ps) (places_join xs ys)

pub variables_join : (path : Path) (vs ws : List Variable) → ranged_variables path (vs ++ ws) ≡ ranged_variables path vs ++ ranged_variables path ws
variables_join path [] ws = refl
variables_join path (v ∷ vs) ws = by (is_boolean v.type) (variables_join path vs ws) where
  by : (b : Bool) → ranged_variables path (vs ++ ws) ≡ ranged_variables path vs ++ ranged_variables path ws
      → (if b then ranged_variables path (vs ++ ws) else at_place path v.name ∷ ranged_variables path (vs ++ ws)) ≡ (if b then ranged_variables path vs else at_place path v.name ∷ ranged_variables path vs) ++ ranged_variables path ws
  by true e = e
  by false e = ap (λ ps. at_place path v.name ∷ ps) e

leaves_join : (xs ys : List Leaf) → ranged (xs ++ ys) ≡ ranged xs ++ ranged ys
leaves_join [] ys = refl
leaves_join (leaf ∷ xs) ys =
    ap (λ (ps : List Place). of_kind leaf.path leaf.kind ++ ps) (leaves_join xs ys) ∙ sym (append_assoc (of_kind leaf.path leaf.kind) (ranged xs) (ranged ys))

rows_places : (f : Variable → Span) (path : Path) (vs : List Variable) → range_places (rows_by f path vs) ≡ ranged_variables path vs
rows_places f path [] = refl
rows_places f path (v ∷ vs) = by (is_boolean v.type) (rows_places f path vs) where
  by : (b : Bool) → range_places (rows_by f path vs) ≡ ranged_variables path vs
      → range_places (if b then rows_by f path vs else range_row path v.name (f v) ∷ rows_by f path vs) ≡ (if b then ranged_variables path vs else at_place path v.name ∷ ranged_variables path vs)
  by true e = e
  by false e = ap (λ ps. at_place path v.name ∷ ps) e

kind_places : (f : Variable → Span) (path : Path) (kind : Kind) → range_places (kind_rows f path kind) ≡ of_kind path kind
kind_places f path (Charted block) =
    let ins = ranged_variables path block.inputs in
    rows_places f path (variables (Charted block))
    ∙ (variables_join path block.inputs (block.outputs ++ block.internals)
    ∙ (ap (λ (ps : List Place). ins ++ ps) (variables_join path block.outputs block.internals) ∙ sym (append_assoc ins (ranged_variables path block.outputs) (ranged_variables path block.internals))))
kind_places f path (Serviced service) = refl

leaf_places : (all : List Leaf) (f : Leaf → Variable → Span) → range_places (leaf_rows f all) ≡ ranged all
leaf_places [] f = refl
leaf_places (leaf ∷ rest) f =
    places_join (kind_rows (f leaf) leaf.path leaf.kind) (leaf_rows f rest) ∙ ap₂ (λ (ps : List Place) (qs : List Place). ps ++ qs) (kind_places (f leaf) leaf.path leaf.kind) (leaf_places rest f)

-- the rows of all devices stand in the order of their variables
pub found_rows_are_all : (ds : List Device) (xs : List Range) → AreFound ds xs → range_places xs ≡ ranged (all_leaves ds)
found_rows_are_all ds xs no_device = refl
found_rows_are_all ds xs (a_device {d = d} {ds = es} {xs = ys} {ys = zs} last found) =
    places_join ys zs
    ∙ (ap₂ (λ (ps : List Place) (qs : List Place). ps ++ qs) (last_rows (λ rs. range_places rs ≡ ranged (leaves d)) (leaves d) (leaf_places (leaves d)) ys last) (found_rows_are_all es zs found)
    ∙ sym (leaves_join (leaves d) (all_leaves es)))

-- and are determined by the system
pub found_rows_are_one : (ds : List Device) (xs ys : List Range) → AreFound ds xs → AreFound ds ys → xs ≡ ys
found_rows_are_one ds xs ys no_device no_device = refl
found_rows_are_one ds xs ys (a_device {d = d} {ds = es} {xs = as'} {ys = bs} last found) (a_device {xs = cs} {ys = fs} again more) =
    ap₂ (λ (us : List Range) (vs : List Range). us ++ vs) (one_end (leaves d) 1 (start_rows (leaves d)) as' cs last again) (found_rows_are_one es bs fs found more)
