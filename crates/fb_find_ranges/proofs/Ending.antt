-- Lines stay the same in a round exactly where the book's rows do; and so the last lines are the rows of the last round.
use Rattle.std.proofs.Common.{◌≡◌, ◌≢◌, ℕ, ◌+◌, nat_lt, nat_le, min, arith, int_eq, Bool, true, false, ◌&&◌, List, [], ◌∷◌, ◌++◌, map, Some, refl, sym, ap, ap₂, subst, ◌∙◌, if◌then◌else◌}
use Rattle.std.specs.List.{AllByRecursion, AllZip}
use Rattle.std.proofs.lemmas.Bool.{and_parts}
use Rattle.std.proofs.lemmas.Bool.Decides.{Decides-int_eq, nat_tests}
use Rattle.fb_model.specs.Names.{Path}
use Rattle.fb_model.specs.Values.{numbers_of}
use Rattle.fb_model.specs.System.{Variable}
use Rattle.fb_model.specs.NetworkTyping.{variable_named}
use Rattle.fb_model.specs.Wires.{Kind, Charted, Serviced, Leaf}
use Rattle.fb_model.specs.Spans.{Span, span, whole}
use Rattle.fb_model.specs.Clear.{Spans}
use Rattle.fb_model.specs.Ranges.{Range, variables, row_of, rows}
use Rattle.fb_model.specs.Certificates.{is_boolean}
use Rattle.fb_model.proofs.Lists.{all_weaker}
use Rattle.fb_model_laws.specs.Leaves.{AreApart, IsFed}
use Rattle.fb_model.specs.FinderRanges.{held, first_value, range_row, rows_by, kind_rows, leaf_rows, round, Settles, ends, goes_on, IsLast, IsTable}
use Rattle.fb_model_laws.proofs.HoldingRows.{all_own}
use Rattle.fb_model_laws.proofs.Looking.{settled, AreSame, AreOwn, RowsStand, rows_stand}
use Rattle.fb_find_ranges.specs.Lines.{line_by, lines_by, Lined, spans_by, next_round, next_number}
use Rattle.fb_find_ranges.specs.Sameness.{same_span, same_lines, same_all}
use Rattle.fb_find_ranges.specs.Found.{spelled, AreLastTables}
use Rattle.fb_find_ranges.proofs.Tabling.{shown_range, put_own, table_is}
use Rattle.fb_find_ranges.proofs.Keeping.{AreLined, IsTyped, AreTyped, after, round_kept, round_typed}
use Rattle.fb_find_ranges.proofs.Typed.{first_inside}

-- ---- the same ranges

pub span_is : (r s : Span) → same_span r s ≡ true → r ≡ s
span_is r s e = let p = and_parts (int_eq r.low s.low) (int_eq r.high s.high) e in ap₂ span ((Decides-int_eq r.low s.low).0 p.0) ((Decides-int_eq r.high s.high).0 p.1)

span_same : (r : Span) → same_span r r ≡ true
span_same r = rw ((Decides-int_eq r.low r.low).1 refl, (Decides-int_eq r.high r.high).1 refl) refl

rows_same : (f g : Variable → Span) (path : Path) (vs : List Variable) → same_lines (map (line_by f) vs) (map (line_by g) vs) ≡ true → rows_by g path vs ≡ rows_by f path vs
rows_same f g path [] e = refl
rows_same f g path (v ∷ vs) e =
    let p = and_parts (same_span (shown_range f v) (shown_range g v)) (same_lines (map (line_by f) vs) (map (line_by g) vs)) e in
    by (is_boolean v.type) (span_is (shown_range f v) (shown_range g v) p.0) (rows_same f g path vs p.1)
  where
    by : (b : Bool) → (if b then whole v.type else f v) ≡ (if b then whole v.type else g v) → rows_by g path vs ≡ rows_by f path vs → (if b then rows_by g path vs else range_row path v.name (g v) ∷ rows_by g path vs) ≡ (if b then rows_by f path vs else range_row path v.name (f v) ∷ rows_by f path vs)
    by true s next = next
    by false s next = ap₂ (λ r rest. range_row path v.name r ∷ rest) (sym s) next

lines_same : (f g : Variable → Span) (path : Path) (vs : List Variable) (more others : List Range) → rows_by g path vs ++ more ≡ rows_by f path vs ++ others → (same_lines (map (line_by f) vs) (map (line_by g) vs) ≡ true) × (more ≡ others)
lines_same f g path [] more others e = (refl, e)
lines_same f g path (v ∷ vs) more others e = by (is_boolean v.type) e (lines_same f g path vs more others) where
  both : (a b : Bool) → a ≡ true → b ≡ true → (a && b) ≡ true
  both true true s u = refl
  both true false s u = absurd cc
  both false b s u = absurd cc

  by : (b : Bool) → (if b then rows_by g path vs else range_row path v.name (g v) ∷ rows_by g path vs) ++ more ≡ (if b then rows_by f path vs else range_row path v.name (f v) ∷ rows_by f path vs) ++ others
      → (rows_by g path vs ++ more ≡ rows_by f path vs ++ others → (same_lines (map (line_by f) vs) (map (line_by g) vs) ≡ true) × (more ≡ others))
      → ((same_span (if b then whole v.type else f v) (if b then whole v.type else g v) && same_lines (map (line_by f) vs) (map (line_by g) vs)) ≡ true) × (more ≡ others)
  by true s next = let h = next s in (both _ _ (span_same (whole v.type)) h.0, h.1)
  by false s next =
      let first : range_row path v.name (g v) ≡ range_row path v.name (f v) = cc in
      let rest : rows_by g path vs ++ more ≡ rows_by f path vs ++ others = cc in
      let r : f v ≡ g v = ap (λ (q : Range). span q.low q.high) (sym first) in
      let h = next rest in
      (both _ _ (subst (λ (q : Span). same_span (f v) q ≡ true) r (span_same (f v))) h.0, h.1)

kind_same : (f g : Variable → Span) (path : Path) (kind : Kind) → same_lines (lines_by f kind) (lines_by g kind) ≡ true → kind_rows g path kind ≡ kind_rows f path kind
kind_same f g path (Charted block) e = rows_same f g path (variables (Charted block)) e
kind_same f g path (Serviced service) e = refl

kind_lines : (f g : Variable → Span) (path : Path) (kind : Kind) (more others : List Range) → kind_rows g path kind ++ more ≡ kind_rows f path kind ++ others → (same_lines (lines_by f kind) (lines_by g kind) ≡ true) × (more ≡ others)
kind_lines f g path (Charted block) more others e = lines_same f g path (variables (Charted block)) more others e
kind_lines f g path (Serviced service) more others e = (refl, e)

-- where all lines are the same, all rows are
pub same_then : (f g : Leaf → Variable → Span) (ss us : List Lined) (bs : List Leaf) → AreLined f ss bs → AreLined g us bs → same_all ss us ≡ true → leaf_rows g bs ≡ leaf_rows f bs
same_then f g [] [] [] h k e = refl
same_then f g [] us (b ∷ bs) h k e = absurd h
same_then f g (s ∷ ss) us [] h k e = absurd h
same_then f g [] (u ∷ us) [] h k e = absurd k
same_then f g (s ∷ ss) [] (b ∷ bs) h k e = absurd k
same_then f g (s ∷ ss) (u ∷ us) (b ∷ bs) h k e =
    let p = and_parts (same_lines s.lines u.lines) (same_all ss us) e in
    let q : same_lines (lines_by (f b) b.kind) (lines_by (g b) b.kind) ≡ true = ap₂ same_lines (sym h.0.lines) (sym k.0.lines) ∙ p.0 in
    ap₂ (λ (x y : List Range). x ++ y) (kind_same (f b) (g b) b.path b.kind q) (same_then f g ss us bs h.1 k.1 p.1)

-- and only there
pub then_same : (f g : Leaf → Variable → Span) (ss us : List Lined) (bs : List Leaf) → AreLined f ss bs → AreLined g us bs → leaf_rows g bs ≡ leaf_rows f bs → same_all ss us ≡ true
then_same f g [] [] [] h k e = refl
then_same f g [] us (b ∷ bs) h k e = absurd h
then_same f g (s ∷ ss) us [] h k e = absurd h
then_same f g [] (u ∷ us) [] h k e = absurd k
then_same f g (s ∷ ss) [] (b ∷ bs) h k e = absurd k
then_same f g (s ∷ ss) (u ∷ us) (b ∷ bs) h k e =
    let p = kind_lines (f b) (g b) b.path b.kind (leaf_rows g bs) (leaf_rows f bs) e in
    both _ _ (ap₂ same_lines h.0.lines k.0.lines ∙ p.0) (then_same f g ss us bs h.1 k.1 p.1)
  where
    both : (a b : Bool) → a ≡ true → b ≡ true → (a && b) ≡ true
    both true true s u = refl
    both true false s u = absurd cc
    both false b s u = absurd cc

-- ---- before a round

-- lines before a round of the code are the book's rows before one, from which the last rows are reached
pub record Stands (bs : List Leaf) (round : ℕ) (ss : List Lined) : Type 0 where
  pub number : ℕ
  pub by : Leaf → Variable → Span
  pub counts : round ≡ min number 65
  pub typed : AreTyped by bs
  pub lined : AreLined by ss bs
  pub goes : (zs : List Range) → Settles bs number (leaf_rows by bs) zs → IsLast bs zs

late_alike : (n k : ℕ) → n ≡ min k 65 → nat_lt 64 n ≡ nat_lt 64 k
late_alike n k e = by (nat_lt 64 n) (nat_lt 64 k) refl refl where
  by : (a b : Bool) → nat_lt 64 n ≡ a → nat_lt 64 k ≡ b → a ≡ b
  by true true s u = refl
  by false false s u = refl
  by true false s u = grind (arith, nat_tests)
  by false true s u = grind (arith, nat_tests)

next_counts : (n k : ℕ) → n ≡ min k 65 → next_number n ≡ min (k + 1) 65
next_counts n k e = by (nat_le n 64) refl where
  by : (b : Bool) → nat_le n 64 ≡ b → ◌≡◌ {A = ℕ} (if b then n + 1 else n) (min (k + 1) 65)
  by true s = grind (arith, nat_tests)
  by false s = grind (arith, nat_tests)

abbrev pub first_by : Leaf → Variable → Span
first_by leaf v = held (numbers_of (first_value leaf v))

start_typed : (all bs : List Leaf) → AllByRecursion (IsFed all) bs → AreTyped first_by bs
start_typed all bs feds = all_weaker (IsFed all) (λ (b : Leaf). IsTyped first_by b b.kind) bs (λ b f. by b b.kind (first_inside all b f)) feds where
  by : (b : Leaf) (kind : Kind) → AllByRecursion (λ (v : Variable). Rattle.fb_model_laws.proofs.Spans.Inside (first_by b v) (whole v.type)) (variables kind) → IsTyped first_by b kind
  by b (Charted block) h = h
  by b (Serviced service) h = tt

pub stands_first : (bs : List Leaf) (ss : List Lined) → AllByRecursion (IsFed bs) bs → AreLined first_by ss bs → Stands bs 1 ss
stands_first bs ss feds h = record { number = 1; by = first_by; counts = refl; typed = start_typed bs bs feds; lined = h; goes = λ zs s. s }

pub stands_next : (bs : List Leaf) (n m : ℕ) (ss us : List Lined) → AreApart bs → AllByRecursion (IsFed bs) bs → Stands bs n ss → us ≡ next_round n ss → same_all ss us ≡ false → m ≡ next_number n → Stands bs m us
stands_next bs n m ss us apart feds h is new later =
    let f = after h.number bs (leaf_rows h.by bs) in
    let kept : AreLined f us bs = subst (λ xs. AreLined f xs bs) (sym is) (round_kept n h.number h.by ss bs (late_alike n h.number h.counts) apart feds h.typed h.lined) in
    let other : round h.number bs (leaf_rows h.by bs) ≢ leaf_rows h.by bs = (λ e. let t : same_all ss us ≡ true = then_same h.by f ss us bs h.lined kept e in let z : ⊥ = cc in z) in
    record {
      number = h.number + 1;
      by = f;
      counts = later ∙ next_counts n h.number h.counts;
      typed = round_typed h.number h.by bs apart feds h.typed;
      lined = kept;
      goes = λ zs s. h.goes zs (goes_on other s);
    }

-- ---- the last round

abbrev pub all_spans : List Lined → List Spans
all_spans ss = map (λ (s : Lined). spans_by s.lines) ss

rows_spelled : (f g : Variable → Span) (path : Path) (vs : List Variable) → AllByRecursion (λ (v : Variable). g v ≡ shown_range f v) vs → rows_by g path vs ≡ rows_by f path vs
rows_spelled f g path [] h = refl
rows_spelled f g path (v ∷ vs) h = by (is_boolean v.type) h.0 (rows_spelled f g path vs h.1) where
  by : (b : Bool) → g v ≡ (if b then whole v.type else f v) → rows_by g path vs ≡ rows_by f path vs → (if b then rows_by g path vs else range_row path v.name (g v) ∷ rows_by g path vs) ≡ (if b then rows_by f path vs else range_row path v.name (f v) ∷ rows_by f path vs)
  by true s next = next
  by false s next = ap₂ (λ r rest. range_row path v.name r ∷ rest) s next

kind_spelled : (f : Variable → Span) (path : Path) (kind : Kind) → AreOwn kind → kind_rows (λ v. spans_by (lines_by f kind) v.name) path kind ≡ kind_rows f path kind
kind_spelled f path (Charted block) own =
    let vs = variables (Charted block) in
    rows_spelled f (λ v. spans_by (lines_by f (Charted block)) v.name) path vs
    (all_weaker (λ (v : Variable). (variable_named vs v.name ≡ Some v) × AreSame v vs) (λ (v : Variable). spans_by (lines_by f (Charted block)) v.name ≡ shown_range f v) vs
    (λ v o. put_own f vs v (λ y. whole Rattle.fb_words.specs.declared.elem_type.ElemType.TheVariants.Lint) o.1 o.0) own)
kind_spelled f path (Serviced service) own = refl

spelled_is : (f : Leaf → Variable → Span) (ss : List Lined) (bs : List Leaf) → AreLined f ss bs → AllByRecursion (λ (b : Leaf). AreOwn b.kind) bs → spelled (all_spans ss) bs ≡ leaf_rows f bs
spelled_is f [] [] h own = refl
spelled_is f [] (b ∷ bs) h own = absurd h
spelled_is f (s ∷ ss) [] h own = absurd h
spelled_is f (s ∷ ss) (b ∷ bs) h own =
    ap₂ (λ (x y : List Range). x ++ y) (ap (λ ls. kind_rows (λ v. spans_by ls v.name) b.path b.kind) h.0.lines ∙ kind_spelled (f b) b.path b.kind own.0) (spelled_is f ss bs h.1 own.1)

one_table : (f : Leaf → Variable → Span) (ranges : List Range) (b : Leaf) (kind : Kind) → b.kind ≡ kind → AreOwn kind → AllByRecursion (λ (v : Variable). row_of ranges b.path kind v ≡ settled kind v (f b v)) (variables kind) → IsTable ranges (spans_by (lines_by (f b) kind)) b kind
one_table f ranges b (Charted block) is own stand = table_is (f b) b.path ranges block own stand ∙ ap (rows ranges b.path) (sym is)
one_table f ranges b (Serviced service) is own stand = tt

all_tables : (f : Leaf → Variable → Span) (ranges : List Range) (ss : List Lined) (bs : List Leaf) → AreLined f ss bs → AllByRecursion (λ (b : Leaf). AreOwn b.kind) bs → AllByRecursion (RowsStand f ranges) bs
    → AllZip (λ spans leaf. IsTable ranges spans leaf leaf.kind) (all_spans ss) bs
all_tables f ranges [] [] h own stand = tt
all_tables f ranges [] (b ∷ bs) h own stand = absurd h
all_tables f ranges (s ∷ ss) [] h own stand = absurd h
all_tables f ranges (s ∷ ss) (b ∷ bs) h own stand = (
  subst (λ ls. IsTable ranges (spans_by ls) b b.kind) (sym h.0.lines) (one_table f ranges b b.kind refl own.0 stand.0),
  all_tables f ranges ss bs h.1 own.1 stand.1,
)

-- lines that a round leaves the same are the rows after the last round
pub are_last : (bs : List Leaf) (n : ℕ) (ss us : List Lined) → AreApart bs → AllByRecursion (IsFed bs) bs → Stands bs n ss → us ≡ next_round n ss → same_all ss us ≡ true → AreLastTables bs (all_spans ss)
are_last bs n ss us apart feds h is same =
    let f = after h.number bs (leaf_rows h.by bs) in
    let kept : AreLined f us bs = subst (λ xs. AreLined f xs bs) (sym is) (round_kept n h.number h.by ss bs (late_alike n h.number h.counts) apart feds h.typed h.lined) in
    let stays : round h.number bs (leaf_rows h.by bs) ≡ leaf_rows h.by bs = same_then h.by f ss us bs h.lined kept same in
    let own = all_own bs bs feds in
    let spelt : spelled (all_spans ss) bs ≡ leaf_rows h.by bs = spelled_is h.by ss bs h.lined own in
    record {
      last = subst (IsLast bs) (sym spelt) (h.goes (leaf_rows h.by bs) (ends stays));
      each =
          subst (λ (rs : List Range). AllZip (λ spans leaf. IsTable rs spans leaf leaf.kind) (all_spans ss) bs) (sym spelt)
          (all_tables h.by (leaf_rows h.by bs) ss bs h.lined own (rows_stand h.by bs apart own));
    }
