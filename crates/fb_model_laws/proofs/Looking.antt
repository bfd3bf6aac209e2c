-- Rows are found where they were put.
use Rattle.std.proofs.Common.{◌≡◌, Bool, true, false, ◌&&◌, List, [], ◌∷◌, ◌++◌, Some, refl, sym, ap, ◌∙◌, if◌then◌else◌}
use Rattle.std.specs.Str.{bytes_eq}
use Rattle.std.specs.List.{AllByRecursion}
use Rattle.fb_model.specs.Names.{Path, path_eq}
use Rattle.fb_model.specs.System.{Variable}
use Rattle.fb_model.specs.NetworkTyping.{variable_named}
use Rattle.fb_model.specs.Wires.{Kind, Charted, Serviced, Leaf}
use Rattle.fb_model.specs.Spans.{Span, whole}
use Rattle.fb_model.specs.Ranges.{Range, variables, row_at, row_of}
use Rattle.fb_model.specs.Certificates.{is_boolean}
use Rattle.fb_model.proofs.Lists.{all_weaker, all_both}
use Rattle.fb_model.proofs.Placed.{path_same}
use Rattle.fb_model.proofs.Names.{eq_turned}
use Rattle.fb_model_laws.specs.Leaves.{AreApart}
use Rattle.fb_model.specs.FinderRanges.{range_row, rows_by, kind_rows, leaf_rows}

-- the row that a variable then has: all of its type where it is BOOL, or of a service
abbrev pub settled : Kind → Variable → Span → Span
settled (Charted block) v r = if is_boolean v.type then whole v.type else r
settled (Serviced service) v r = whole v.type

other_paths : (f : Variable → Span) (path q : Path) (vs : List Variable) (rest : List Range) (v : Variable) → path_eq path q ≡ false → row_at (rows_by f path vs ++ rest) q v ≡ row_at rest q v
other_paths f path q [] rest v e = refl
other_paths f path q (w ∷ ws) rest v e = by (is_boolean w.type) (other_paths f path q ws rest v e) where
  by : (b : Bool) → row_at (rows_by f path ws ++ rest) q v ≡ row_at rest q v → row_at ((if b then rows_by f path ws else range_row path w.name (f w) ∷ rows_by f path ws) ++ rest) q v ≡ row_at rest q v
  by true h = h
  by false h = rw e h

kind_other : (f : Variable → Span) (path q : Path) (kind : Kind) (rest : List Range) (v : Variable) → path_eq path q ≡ false → row_at (kind_rows f path kind ++ rest) q v ≡ row_at rest q v
kind_other f path q (Charted block) rest v e = other_paths f path q (variables (Charted block)) rest v e
kind_other f path q (Serviced service) rest v e = refl

-- no row of a path that no leaf has
none_there : (f : Leaf → Variable → Span) (all : List Leaf) (q : Path) (v : Variable) → AllByRecursion (λ (leaf : Leaf). path_eq q leaf.path ≡ false) all → ((p r : Path) → path_eq p r ≡ path_eq r p) → row_at (leaf_rows f all) q v ≡ whole v.type
none_there f [] q v a turned = refl
none_there f (leaf ∷ rest) q v a turned = kind_other (f leaf) leaf.path q leaf.kind (leaf_rows f rest) v (turned leaf.path q ∙ a.0) ∙ none_there f rest q v a.1 turned

pub path_turned : (p r : Path) → path_eq p r ≡ path_eq r p
path_turned [] [] = refl
path_turned [] (n ∷ q) = refl
path_turned (m ∷ p) [] = refl
path_turned (m ∷ p) (n ∷ q) = ap (λ b. b && path_eq p q) (eq_turned m n) ∙ ap (λ b. bytes_eq n m && b) (path_turned p q)

-- ---- a variable's own row

-- those of its name are the variable itself
abbrev pub AreSame : Variable → List Variable → Type 0
AreSame v vs = AllByRecursion (λ (x : Variable). bytes_eq v.name x.name ≡ true → x ≡ v) vs

head : (b : Bool) (f : Variable → Span) (path : Path) (w : Variable) (rows rest : List Range) (v : Variable) → bytes_eq v.name w.name ≡ false → row_at ((if b then rows else range_row path w.name (f w) ∷ rows) ++ rest) path v ≡ row_at (rows ++ rest) path v
head true f path w rows rest v d = refl
head false f path w rows rest v d = rw (path_same path, eq_turned w.name v.name ∙ d) refl

-- a BOOL has none
skipped : (f : Variable → Span) (path : Path) (vs : List Variable) (rest : List Range) (v : Variable) → AreSame v vs → is_boolean v.type ≡ true → row_at (rows_by f path vs ++ rest) path v ≡ row_at rest path v
skipped f path [] rest v same b = refl
skipped f path (w ∷ ws) rest v same b = by (bytes_eq v.name w.name) refl (skipped f path ws rest v same.1 b) where
  by : (t : Bool) → bytes_eq v.name w.name ≡ t → row_at (rows_by f path ws ++ rest) path v ≡ row_at rest path v → row_at (rows_by f path (w ∷ ws) ++ rest) path v ≡ row_at rest path v
  by true d h = let e : is_boolean w.type ≡ true = ap (λ x. is_boolean x.type) (same.0 d) ∙ b in rw e h
  by false d h = head (is_boolean w.type) f path w (rows_by f path ws) rest v d ∙ h

own_row : (f : Variable → Span) (path : Path) (vs : List Variable) (rest : List Range) (v : Variable) → AreSame v vs → variable_named vs v.name ≡ Some v → row_at rest path v ≡ whole v.type → row_at (rows_by f path vs ++ rest) path v ≡ (if is_boolean v.type then whole v.type else f v)
own_row f path [] rest v same e none = absurd cc
own_row f path (w ∷ ws) rest v same e none = by (bytes_eq v.name w.name) refl e (own_row f path ws rest v same.1) where
  here : (b : Bool) → w ≡ v → bytes_eq v.name w.name ≡ true → is_boolean w.type ≡ b → row_at (rows_by f path (w ∷ ws) ++ rest) path v ≡ (if is_boolean v.type then whole v.type else f v)
  here true s d b =
      let t : is_boolean v.type ≡ true = ap (λ x. is_boolean x.type) (sym s) ∙ b in
      rw (b, t) (skipped f path ws rest v same.1 t ∙ none)
  here false s d b =
      let t : is_boolean v.type ≡ false = ap (λ x. is_boolean x.type) (sym s) ∙ b in
      rw (b, t, path_same path, eq_turned w.name v.name ∙ d) (ap f s)

  by : (t : Bool) → bytes_eq v.name w.name ≡ t → (if t then Some w else variable_named ws v.name) ≡ Some v → (variable_named ws v.name ≡ Some v → row_at rest path v ≡ whole v.type → row_at (rows_by f path ws ++ rest) path v ≡ (if is_boolean v.type then whole v.type else f v)) → row_at (rows_by f path (w ∷ ws) ++ rest) path v ≡ (if is_boolean v.type then whole v.type else f v)
  by true d s h = here (is_boolean w.type) (let q : w ≡ v = cc in q) d refl
  by false d s h = head (is_boolean w.type) f path w (rows_by f path ws) rest v d ∙ h s none

-- ---- among leaves

-- the variables of a leaf are each the first of their name
abbrev pub AreOwn : Kind → Type 0
AreOwn kind = AllByRecursion (λ (v : Variable). (variable_named (variables kind) v.name ≡ Some v) × AreSame v (variables kind)) (variables kind)

-- each variable of a leaf has the row that it was given
abbrev pub RowsStand : (Leaf → Variable → Span) → List Range → Leaf → Type 0
RowsStand f ranges leaf = AllByRecursion (λ (v : Variable). row_of ranges leaf.path leaf.kind v ≡ settled leaf.kind v (f leaf v)) (variables leaf.kind)

own_rows : (f : Leaf → Variable → Span) (leaf : Leaf) (kind : Kind) (rest : List Leaf) → leaf.kind ≡ kind → AreOwn kind → AllByRecursion (λ (other : Leaf). path_eq leaf.path other.path ≡ false) rest
    → AllByRecursion (λ (v : Variable). row_of (kind_rows (f leaf) leaf.path kind ++ leaf_rows f rest) leaf.path kind v ≡ settled kind v (f leaf v)) (variables kind)
own_rows f leaf (Charted block) rest e own apart =
    all_weaker (λ (v : Variable). (variable_named (variables (Charted block)) v.name ≡ Some v) × AreSame v (variables (Charted block)))
    (λ (v : Variable). row_at (rows_by (f leaf) leaf.path (variables (Charted block)) ++ leaf_rows f rest) leaf.path v ≡ (if is_boolean v.type then whole v.type else f leaf v)) (variables (Charted block))
    (λ v o. own_row (f leaf) leaf.path (variables (Charted block)) (leaf_rows f rest) v o.1 o.0 (none_there f rest leaf.path v apart path_turned)) own
own_rows f leaf (Serviced service) rest e own apart =
    all_weaker (λ (v : Variable). (variable_named (variables (Serviced service)) v.name ≡ Some v) × AreSame v (variables (Serviced service))) (λ (v : Variable). whole v.type ≡ whole v.type) (variables (Serviced service)) (λ v o. refl) own

later_rows : (f : Leaf → Variable → Span) (leaf other : Leaf) (kind : Kind) (rest : List Leaf) → path_eq leaf.path other.path ≡ false
    → AllByRecursion (λ (v : Variable). row_of (leaf_rows f rest) other.path kind v ≡ settled kind v (f other v)) (variables kind)
    → AllByRecursion (λ (v : Variable). row_of (leaf_rows f (leaf ∷ rest)) other.path kind v ≡ settled kind v (f other v)) (variables kind)
later_rows f leaf other (Charted block) rest d h =
    all_weaker (λ (v : Variable). row_at (leaf_rows f rest) other.path v ≡ settled (Charted block) v (f other v)) (λ (v : Variable). row_at (leaf_rows f (leaf ∷ rest)) other.path v ≡ settled (Charted block) v (f other v)) (variables (Charted block))
    (λ v e. kind_other (f leaf) leaf.path other.path leaf.kind (leaf_rows f rest) v d ∙ e) h
later_rows f leaf other (Serviced service) rest d h = h

pub rows_stand : (f : Leaf → Variable → Span) (all : List Leaf) → AreApart all → AllByRecursion (λ (leaf : Leaf). AreOwn leaf.kind) all → AllByRecursion (RowsStand f (leaf_rows f all)) all
rows_stand f [] apart own = tt
rows_stand f (leaf ∷ rest) apart own = (
  own_rows f leaf leaf.kind rest refl own.0 apart.0,
  all_both (λ (other : Leaf). path_eq leaf.path other.path ≡ false) (RowsStand f (leaf_rows f rest)) (RowsStand f (leaf_rows f (leaf ∷ rest))) rest (λ other d h. later_rows f leaf other other.kind rest d h) apart.0 (rows_stand f rest apart.1 own.1),
)
