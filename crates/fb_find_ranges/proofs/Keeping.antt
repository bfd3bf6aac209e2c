-- A round of lines is a round of the book's rows.
use Rattle.std.proofs.Common.{◌≡◌, ℕ, nat_lt, Bool, true, false, List, [], ◌∷◌, map, refl, sym, ap, ap₂, subst, ◌∙◌, arith, if◌then◌else◌}
use Rattle.std.specs.Int.{int_min, int_max}
use Rattle.std.specs.List.{AllByRecursion}
use Rattle.std.proofs.lemmas.Int.{ints, clamps}
use Rattle.fb_words.specs.declared.elem_type.ElemType.{ElemType}
use Rattle.fb_model.specs.Names.{Name}
use Rattle.fb_model.specs.System.{Variable, Block}
use Rattle.fb_model.specs.Wires.{Source, Kind, Charted, Serviced, Leaf}
use Rattle.fb_model.specs.Spans.{Span, span, whole, joined}
use Rattle.fb_model.specs.Clear.{Spans}
use Rattle.fb_model.specs.Ranges.{Range, variables, row_of, rows}
use Rattle.fb_model.specs.Certificates.{is_boolean}
use Rattle.fb_model.proofs.Lists.{all_both}
use Rattle.fb_model_laws.specs.Leaves.{AreApart, IsFed}
use Rattle.fb_model.specs.FinderRanges.{leaf_rows, asked, widened}
use Rattle.fb_model_laws.proofs.HoldingRows.{all_own}
use Rattle.fb_model_laws.proofs.Looking.{settled, AreOwn, RowsStand, rows_stand}
use Rattle.fb_model_laws.proofs.Spans.{Inside, widened_typed, widened_more}
use Rattle.fb_find_ranges.specs.Lines.{line_by, lines_by, Lined, spans_by, Tabled, tabled, given, asked_in, next_line, next_lined, next_round}
use Rattle.fb_find_ranges.proofs.Tabling.{table_is}
use Rattle.fb_find_ranges.proofs.Asking.{IsTabled, AreTabled, asked_is, port_is}

-- ---- lines by what ranges variables have

-- the sources of a chart's inputs
abbrev pub SameSources : (Name → Source) → (Name → Source) → Kind → Type 0
SameSources some others (Charted block) = (x : Name) → some x ≡ others x
SameSources some others (Serviced service) = Unit {0}

-- a leaf of the tables is this leaf of the book
pub record IsShown (l b : Leaf) : Type 0 where
  pub path : l.path ≡ b.path
  pub kind : l.kind ≡ b.kind
  pub sources : SameSources l.source b.source b.kind

-- and its variables have these ranges
pub record IsLined (f : Leaf → Variable → Span) (s : Lined) (b : Leaf) : Type 0 where
  pub leaf : IsShown s.leaf b
  pub lines : s.lines ≡ lines_by (f b) b.kind

abbrev pub AreLined : (Leaf → Variable → Span) → List Lined → List Leaf → Type 0
AreLined f [] [] = Unit {0}
AreLined f (s ∷ ss) (b ∷ bs) = IsLined f s b × AreLined f ss bs
AreLined f [] (b ∷ bs) = ⊥
AreLined f (s ∷ ss) [] = ⊥

-- the ranges of a chart's variables lie in their types
abbrev pub IsTyped : (Leaf → Variable → Span) → Leaf → Kind → Type 0
IsTyped f b (Charted block) = AllByRecursion (λ (v : Variable). Inside (f b v) (whole v.type)) (variables (Charted block))
IsTyped f b (Serviced service) = Unit {0}

abbrev pub AreTyped : (Leaf → Variable → Span) → List Leaf → Type 0
AreTyped f bs = AllByRecursion (λ (b : Leaf). IsTyped f b b.kind) bs

-- ---- tables

gives_by : (f : Leaf → Variable → Span) (ranges : List Range) (b : Leaf) (kind : Kind) → AreOwn kind → AllByRecursion (λ (v : Variable). row_of ranges b.path kind v ≡ settled kind v (f b v)) (variables kind)
    → (y : Name) → given kind (spans_by (lines_by (f b) kind)) y ≡ rows ranges b.path kind y
gives_by f ranges b (Charted block) own stand y = ap (λ (s : Spans). s y) (table_is (f b) b.path ranges block own stand)
gives_by f ranges b (Serviced service) own stand y = port_is ranges b.path service y

one_tabled : (f : Leaf → Variable → Span) (ranges : List Range) (s : Lined) (b : Leaf) → IsLined f s b → AreOwn b.kind → RowsStand f ranges b → IsTabled ranges (tabled s) b
one_tabled f ranges s b h own stand = record {
  path = h.leaf.path;
  gives = λ y. ap₂ (λ k ls. given k (spans_by ls) y) h.leaf.kind h.lines ∙ gives_by f ranges b b.kind own stand y;
}

all_tabled : (f : Leaf → Variable → Span) (ranges : List Range) (ss : List Lined) (bs : List Leaf) → AreLined f ss bs → AllByRecursion (λ (b : Leaf). AreOwn b.kind) bs → AllByRecursion (RowsStand f ranges) bs → AreTabled ranges (map tabled ss) bs
all_tabled f ranges [] [] h own stand = tt
all_tabled f ranges [] (b ∷ bs) h own stand = absurd h
all_tabled f ranges (s ∷ ss) [] h own stand = absurd h
all_tabled f ranges (s ∷ ss) (b ∷ bs) h own stand = (one_tabled f ranges s b h.0 own.0 stand.0, all_tabled f ranges ss bs h.1 own.1 stand.1)

-- ---- a row after a round

joined_more : (r s : Span) → Inside r s → joined r s ≡ s
joined_more r s i =
    let low : int_min r.low s.low ≡ s.low = omega (arith, ints, clamps, i.low) in
    let high : int_max r.high s.high ≡ s.high = omega (arith, ints, clamps, i.high) in
    ap₂ span low high

alike : (n m : ℕ) (a : ElemType) (old r : Span) → nat_lt 64 n ≡ nat_lt 64 m → widened n a old r ≡ widened m a old r
alike n m a old r e = ap (λ far. span (if Rattle.std.proofs.Common.int_lt r.low old.low then (if far then Rattle.fb_model.specs.Values.lowest a else int_max (Rattle.fb_model.specs.Values.lowest a) r.low) else old.low) (if Rattle.std.proofs.Common.int_lt old.high r.high then (if far then Rattle.fb_model.specs.Values.highest a else int_min (Rattle.fb_model.specs.Values.highest a) r.high) else old.high)) e

-- the rows after round n
abbrev pub after : ℕ → List Leaf → List Range → Leaf → Variable → Span
after n all ranges leaf v = widened n v.type (row_of ranges leaf.path leaf.kind v) (asked ranges all leaf v)

step_is : (n m : ℕ) (a : ElemType) (b : Bool) (old row r s : Span) → nat_lt 64 n ≡ nat_lt 64 m → row ≡ (if b then whole a else old) → Inside old (whole a) → r ≡ s
    → (if b then (if b then whole a else old) else joined (if b then whole a else old) (widened n a (if b then whole a else old) r)) ≡ (if b then whole a else widened m a row s)
step_is n m a true old row r s late is typed same = refl
step_is n m a false old row r s late is typed same =
    joined_more old (widened n a old r) (widened_more n a old r typed) ∙ alike n m a old r late ∙ ap₂ (widened m a) (sym is) same

-- what is so of a chart's variables before a round
abbrev Before : (Leaf → Variable → Span) → List Range → Leaf → Block → Variable → Type 0
Before f ranges b block v = (row_of ranges b.path (Charted block) v ≡ settled (Charted block) v (f b v)) × Inside (f b v) (whole v.type)

lines_kept : (n m : ℕ) (f : Leaf → Variable → Span) (ranges : List Range) (all : List Leaf) (ts : List Tabled) (t : Tabled) (b : Leaf) (block : Block) (vs : List Variable) → nat_lt 64 n ≡ nat_lt 64 m → b.kind ≡ Charted block
    → ((v : Variable) → asked_in ts t v.name ≡ asked ranges all b v) → AllByRecursion (Before f ranges b block) vs → map (next_line n ts t) (map (line_by (f b)) vs) ≡ map (line_by (after m all ranges b)) vs
lines_kept n m f ranges all ts t b block [] late kind same before = refl
lines_kept n m f ranges all ts t b block (v ∷ vs) late kind same before =
    let row : row_of ranges b.path b.kind v ≡ settled (Charted block) v (f b v) = ap (λ k. row_of ranges b.path k v) kind ∙ before.0.0 in
    ap₂ (λ r ls. record { name = v.name; type = v.type; range = r } ∷ ls)
    (step_is n m v.type (is_boolean v.type) (f b v) (row_of ranges b.path b.kind v) (asked_in ts t v.name) (asked ranges all b v) late row before.0.1 (same v))
    (lines_kept n m f ranges all ts t b block vs late kind same before.1)

-- ---- a leaf after a round

leaf_kept : (n m : ℕ) (f : Leaf → Variable → Span) (ranges : List Range) (all : List Leaf) (ts : List Tabled) (t : Tabled) (b : Leaf) (kind : Kind) → nat_lt 64 n ≡ nat_lt 64 m → b.kind ≡ kind → AreTabled ranges ts all
    → t.leaf.kind ≡ kind → t.spans ≡ spans_by (lines_by (f b) kind) → SameSources t.leaf.source b.source kind
    → AreOwn kind → AllByRecursion (λ (v : Variable). row_of ranges b.path kind v ≡ settled kind v (f b v)) (variables kind) → IsTyped f b kind
    → map (next_line n ts t) (lines_by (f b) kind) ≡ lines_by (after m all ranges b) kind
leaf_kept n m f ranges all ts t b (Charted block) late is tabled kind spans sources own stand typed =
    let vs = variables (Charted block) in
    let table : t.spans ≡ rows ranges b.path b.kind = spans ∙ table_is (f b) b.path ranges block own stand ∙ ap (rows ranges b.path) (sym is) in
    lines_kept n m f ranges all ts t b block vs late is (λ v. asked_is ranges ts all t b v tabled (kind ∙ sym is) table (sources v.name))
    (all_both (λ (v : Variable). row_of ranges b.path (Charted block) v ≡ settled (Charted block) v (f b v)) (λ (v : Variable). Inside (f b v) (whole v.type)) (Before f ranges b block) vs (λ v r i. (r, i)) stand typed)
leaf_kept n m f ranges all ts t b (Serviced service) late is tabled kind spans sources own stand typed = refl

leaves_kept : (n m : ℕ) (f : Leaf → Variable → Span) (ranges : List Range) (all : List Leaf) (ts : List Tabled) (ss : List Lined) (bs : List Leaf) → nat_lt 64 n ≡ nat_lt 64 m → AreTabled ranges ts all → AreLined f ss bs
    → AllByRecursion (λ (b : Leaf). AreOwn b.kind) bs → AllByRecursion (RowsStand f ranges) bs → AreTyped f bs → AreLined (after m all ranges) (map (next_lined n ts) (map tabled ss)) bs
leaves_kept n m f ranges all ts [] [] late tabled_are h own stand typed = tt
leaves_kept n m f ranges all ts [] (b ∷ bs) late tabled_are h own stand typed = absurd h
leaves_kept n m f ranges all ts (s ∷ ss) [] late tabled_are h own stand typed = absurd h
leaves_kept n m f ranges all ts (s ∷ ss) (b ∷ bs) late tabled_are h own stand typed = (
  record {
    leaf = h.0.leaf;
    lines =
        ap (map (next_line n ts (tabled s))) h.0.lines
        ∙ leaf_kept n m f ranges all ts (tabled s) b b.kind late refl tabled_are h.0.leaf.kind (ap spans_by h.0.lines) h.0.leaf.sources own.0 stand.0 typed.0;
  },
  leaves_kept n m f ranges all ts ss bs late tabled_are h.1 own.1 stand.1 typed.1,
)

-- a round of code number n is round m of the book, where both are early or both are late
pub round_kept : (n m : ℕ) (f : Leaf → Variable → Span) (ss : List Lined) (bs : List Leaf) → nat_lt 64 n ≡ nat_lt 64 m → AreApart bs → AllByRecursion (IsFed bs) bs → AreTyped f bs → AreLined f ss bs
    → AreLined (after m bs (leaf_rows f bs)) (next_round n ss) bs
round_kept n m f ss bs late apart feds typed h =
    let own = all_own bs bs feds in
    let stand = rows_stand f bs apart own in
    leaves_kept n m f (leaf_rows f bs) bs (map tabled ss) ss bs late (all_tabled f (leaf_rows f bs) ss bs h own stand) h own stand typed

-- ---- rows stay in their types

leaf_typed : (m : ℕ) (f : Leaf → Variable → Span) (ranges : List Range) (all : List Leaf) (b : Leaf) (kind : Kind) → b.kind ≡ kind → AllByRecursion (λ (v : Variable). row_of ranges b.path kind v ≡ settled kind v (f b v)) (variables kind) → IsTyped f b kind
    → IsTyped (after m all ranges) b kind
leaf_typed m f ranges all b (Charted block) is stand typed =
    all_both (λ (v : Variable). row_of ranges b.path (Charted block) v ≡ settled (Charted block) v (f b v)) (λ (v : Variable). Inside (f b v) (whole v.type)) (λ (v : Variable). Inside (after m all ranges b v) (whole v.type)) (variables (Charted block))
    (λ v r i.
    let row : row_of ranges b.path b.kind v ≡ settled (Charted block) v (f b v) = ap (λ k. row_of ranges b.path k v) is ∙ r in
    widened_typed m v.type (row_of ranges b.path b.kind v) (asked ranges all b v) (subst (λ (s : Span). Inside s (whole v.type)) (sym row) (settled_inside (is_boolean v.type) v (f b v) i)))
    stand typed
  where
    settled_inside : (c : Bool) (v : Variable) (r : Span) → Inside r (whole v.type) → Inside (if c then whole v.type else r) (whole v.type)
    settled_inside true v r i = record { low = omega (arith, ints); high = omega (arith, ints) }
    settled_inside false v r i = i
leaf_typed m f ranges all b (Serviced service) is stand typed = tt

pub round_typed : (m : ℕ) (f : Leaf → Variable → Span) (bs : List Leaf) → AreApart bs → AllByRecursion (IsFed bs) bs → AreTyped f bs → AreTyped (after m bs (leaf_rows f bs)) bs
round_typed m f bs apart feds typed =
    all_both (RowsStand f (leaf_rows f bs)) (λ (b : Leaf). IsTyped f b b.kind) (λ (b : Leaf). IsTyped (after m bs (leaf_rows f bs)) b b.kind) bs
    (λ b s i. leaf_typed m f (leaf_rows f bs) bs b b.kind refl s i) (rows_stand f bs apart (all_own bs bs feds)) typed
