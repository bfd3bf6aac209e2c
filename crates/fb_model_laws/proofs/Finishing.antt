-- Rounds come to an end: from round 65 on, each round that enlarges something takes an end to its type's end.
use Rattle.std.proofs.Common.{ℕ, zero, suc, ◌≡◌, ◌≢◌, ◌+◌, ◌<◌, ◌≤◌, ◌⊎◌, inl, inr, ℤ, int_eq, int_lt, nat_lt, Bool, true, false, List, [], ◌∷◌, ◌++◌, length, refl, ap, subst, ◌∙◌, arith, if◌then◌else◌}
use Rattle.std.specs.Int.{int_min, int_max}
use Rattle.std.specs.List.{AllByRecursion}
use Rattle.std.proofs.lemmas.Bool.Decides.{Decides-int_eq, nat_tests}
use Rattle.fb_model.proofs.Lists.{all_weaker}
use Rattle.fb_words.specs.declared.elem_type.ElemType.{ElemType}
use Rattle.fb_model.specs.Names.{Name, Path}
use Rattle.fb_model.specs.Values.{lowest, highest, numbers_of}
use Rattle.fb_model.specs.System.{Variable}
use Rattle.fb_model.specs.Wires.{Kind, Charted, Serviced, Leaf}
use Rattle.fb_model.specs.Spans.{Span, span, whole}
use Rattle.fb_model.specs.Ranges.{Range, variables, row_of}
use Rattle.fb_model.specs.Certificates.{is_boolean}
use Rattle.fb_model_laws.specs.Leaves.{AreApart, IsFed}
use Rattle.fb_model.specs.FinderRanges.{held, first_value, range_row, rows_by, kind_rows, leaf_rows, asked, widened, round, start_rows, Settles, ends, goes_on}
use Rattle.fb_model_laws.proofs.Looking.{settled, RowsStand, rows_stand}
use Rattle.fb_model_laws.proofs.HoldingRows.{all_own}

-- ---- one end

-- 1 where an end is not its type's
abbrev away : ℤ → ℤ → ℕ
away limit x = if int_eq limit x then 0 else 1

at_limit : (limit : ℤ) → away limit limit ≡ 0
at_limit limit = rw ((Decides-int_eq limit limit).1 refl) refl

not_at_limit : (limit x : ℤ) → (limit ≡ x → ⊥) → away limit x ≡ 1
not_at_limit limit x d = by (int_eq limit x) refl where
  by : (b : Bool) → int_eq limit x ≡ b → ◌≡◌ {A = ℕ} (if b then 0 else 1) 1
  by true e = absurd (d ((Decides-int_eq limit x).0 e))
  by false e = refl

same_end : (x y : ℤ) → (x ≡ y) ⊎ (x ≢ y)
same_end x y = by (int_eq x y) refl where
  by : (b : Bool) → int_eq x y ≡ b → (x ≡ y) ⊎ (x ≢ y)
  by true e = inl ((Decides-int_eq x y).0 e)
  by false e = inr (λ s. let t : int_eq x y ≡ true = (Decides-int_eq x y).1 s in let z : ⊥ = cc in z)

-- what is new is the old, or another: then there is less to do, in late rounds; and there is never more
pub record Steps {X : Type 0} (far : Bool) (new old : X) (m k : ℕ) : Type 0 where
  pub moves : (new ≡ old) ⊎ ((new ≢ old) × (far ≡ true → m < k))
  pub less : far ≡ true → m ≤ k

end_steps : (limit near old : ℤ) (grows far : Bool) → Steps far (if grows then (if far then limit else near) else old) old (away limit (if grows then (if far then limit else near) else old)) (away limit old)
end_steps limit near old false far = record { moves = inl refl; less = λ e. omega arith }
end_steps limit near old true false = record {
  moves = elim (same_end near old) [ inl s ↦ inl s | inr d ↦ inr (d, λ e. absurd (let z : ⊥ = cc in z)) ];
  less = λ e. absurd (let z : ⊥ = cc in z);
}
end_steps limit near old true true = record {
  moves = elim (same_end limit old) [ inl s ↦ inl s | inr d ↦ inr (d, λ e. omega (arith, at_limit limit, not_at_limit limit old d)) ];
  less = λ e. omega (arith, at_limit limit);
}

-- ---- a row

abbrev open_ends : ElemType → Span → ℕ
open_ends a r = away (lowest a) r.low + away (highest a) r.high

span_steps : (far : Bool) (l m h k : ℤ) (x y u v : ℕ) → Steps far l m x y → Steps far h k u v → Steps far (span l h) (span m k) (x + u) (y + v)
span_steps far l m h k x y u v s t = record {
  moves = elim s.moves [
    | inl e ↦ elim t.moves [ inl f ↦ inl (ap (λ z. span z h) e ∙ ap (λ z. span m z) f) | inr d ↦ inr (λ g. d.0 (ap (λ r. r.high) g), λ far_is. omega (arith, s.less far_is, d.1 far_is)) ]
    | inr d ↦ inr (λ g. d.0 (ap (λ r. r.low) g), λ far_is. omega (arith, d.1 far_is, t.less far_is))
  ];
  less = λ far_is. omega (arith, s.less far_is, t.less far_is);
}

widened_steps : (n : ℕ) (a : ElemType) (old r : Span) → Steps (nat_lt 64 n) (widened n a old r) old (open_ends a (widened n a old r)) (open_ends a old)
widened_steps n a old r =
    span_steps (nat_lt 64 n) _ old.low _ old.high _ (away (lowest a) old.low) _ (away (highest a) old.high)
    (end_steps (lowest a) (int_max (lowest a) r.low) old.low (int_lt r.low old.low) (nat_lt 64 n))
    (end_steps (highest a) (int_min (highest a) r.high) old.high (int_lt old.high r.high) (nat_lt 64 n))

-- ---- rows

-- what is left to do
abbrev left_by : (Variable → Span) → List Variable → ℕ
left_by f [] = 0
left_by f (v ∷ vs) = if is_boolean v.type then left_by f vs else open_ends v.type (f v) + left_by f vs

abbrev left_of : (Variable → Span) → Kind → ℕ
left_of f (Charted block) = left_by f (variables (Charted block))
left_of f (Serviced service) = 0

abbrev left_in : (Leaf → Variable → Span) → List Leaf → ℕ
left_in f [] = 0
left_in f (leaf ∷ rest) = left_of (f leaf) leaf.kind + left_in f rest

row_steps : (far : Bool) (path : Path) (x : Name) (r s : Span) (m k : ℕ) → Steps far r s m k → Steps far (range_row path x r) (range_row path x s) m k
row_steps far path x r s m k t = record {
  moves = elim t.moves [ inl e ↦ inl (ap (range_row path x) e) | inr d ↦ inr (λ g. d.0 (ap (λ (q : Range). span q.low q.high) g), d.1) ];
  less = t.less;
}

cons_steps : (far : Bool) (a b : Range) (as' bs : List Range) (m k x y : ℕ) → Steps far a b m k → Steps far as' bs x y → Steps far (a ∷ as') (b ∷ bs) (m + x) (k + y)
cons_steps far a b as' bs m k x y s t = record {
  moves = elim s.moves [
    | inl e ↦ elim t.moves [ inl f ↦ inl (let q : a ∷ as' ≡ b ∷ bs = cc in q) | inr d ↦ inr (λ g. d.0 (let q : as' ≡ bs = cc in q), λ i. omega (arith, s.less i, d.1 i)) ]
    | inr d ↦ inr (λ g. d.0 (let q : a ≡ b = cc in q), λ i. omega (arith, d.1 i, t.less i))
  ];
  less = λ i. omega (arith, s.less i, t.less i);
}

-- lists of one length
parts : (as' bs cs ds : List Range) → length as' ≡ length bs → as' ++ cs ≡ bs ++ ds → (as' ≡ bs) × (cs ≡ ds)
parts [] [] cs ds l e = (refl, e)
parts [] (b ∷ bs) cs ds l e = absurd (omega (arith, l))
parts (a ∷ as') [] cs ds l e = absurd (omega (arith, l))
parts (a ∷ as') (b ∷ bs) cs ds l e =
    let h : a ≡ b = cc in
    let t : as' ++ cs ≡ bs ++ ds = cc in
    let r = parts as' bs cs ds (omega (arith, l)) t in
    let f : as' ≡ bs = r.0 in
    (let q : a ∷ as' ≡ b ∷ bs = cc in q, r.1)

append_steps : (far : Bool) (as' bs cs ds : List Range) (m k x y : ℕ) → length as' ≡ length bs → Steps far as' bs m k → Steps far cs ds x y → Steps far (as' ++ cs) (bs ++ ds) (m + x) (k + y)
append_steps far as' bs cs ds m k x y l s t = record {
  moves = elim s.moves [
    | inl e ↦ elim t.moves [ inl f ↦ inl (let q : as' ++ cs ≡ bs ++ ds = cc in q) | inr d ↦ inr (λ g. d.0 (parts as' bs cs ds l g).1, λ i. omega (arith, s.less i, d.1 i)) ]
    | inr d ↦ inr (λ g. d.0 (parts as' bs cs ds l g).0, λ i. omega (arith, d.1 i, t.less i))
  ];
  less = λ i. omega (arith, s.less i, t.less i);
}

-- each variable that is not BOOL takes such a step
abbrev StepsEach : Bool → (Variable → Span) → (Variable → Span) → List Variable → Type 0
StepsEach far g f vs = AllByRecursion (λ (v : Variable). is_boolean v.type ≡ false → Steps far (g v) (f v) (open_ends v.type (g v)) (open_ends v.type (f v))) vs

rows_length : (g f : Variable → Span) (path : Path) (vs : List Variable) → length (rows_by g path vs) ≡ length (rows_by f path vs)
rows_length g f path [] = refl
rows_length g f path (v ∷ vs) = by (is_boolean v.type) (rows_length g f path vs) where
  by : (b : Bool) → length (rows_by g path vs) ≡ length (rows_by f path vs) → length (if b then rows_by g path vs else range_row path v.name (g v) ∷ rows_by g path vs) ≡ length (if b then rows_by f path vs else range_row path v.name (f v) ∷ rows_by f path vs)
  by true e = e
  by false e = omega (arith, e)

rows_steps : (far : Bool) (g f : Variable → Span) (path : Path) (vs : List Variable) → StepsEach far g f vs → Steps far (rows_by g path vs) (rows_by f path vs) (left_by g vs) (left_by f vs)
rows_steps far g f path [] s = record { moves = inl refl; less = λ e. omega arith }
rows_steps far g f path (v ∷ vs) s = by (is_boolean v.type) refl (rows_steps far g f path vs s.1) where
  by : (b : Bool) → is_boolean v.type ≡ b → Steps far (rows_by g path vs) (rows_by f path vs) (left_by g vs) (left_by f vs)
      → Steps far (if b then rows_by g path vs else range_row path v.name (g v) ∷ rows_by g path vs) (if b then rows_by f path vs else range_row path v.name (f v) ∷ rows_by f path vs)
      (if b then left_by g vs else open_ends v.type (g v) + left_by g vs) (if b then left_by f vs else open_ends v.type (f v) + left_by f vs)
  by true e t = t
  by false e t =
      cons_steps far (range_row path v.name (g v)) (range_row path v.name (f v)) (rows_by g path vs) (rows_by f path vs) (open_ends v.type (g v)) (open_ends v.type (f v)) (left_by g vs) (left_by f vs)
      (row_steps far path v.name (g v) (f v) (open_ends v.type (g v)) (open_ends v.type (f v)) (s.0 e)) t

kind_length : (g f : Variable → Span) (path : Path) (kind : Kind) → length (kind_rows g path kind) ≡ length (kind_rows f path kind)
kind_length g f path (Charted block) = rows_length g f path (variables (Charted block))
kind_length g f path (Serviced service) = refl

-- the same of what has rows: a chart
abbrev StepsOn : Bool → (Variable → Span) → (Variable → Span) → Kind → Type 0
StepsOn far g f (Charted block) = StepsEach far g f (variables (Charted block))
StepsOn far g f (Serviced service) = Unit {0}

kind_steps : (far : Bool) (g f : Variable → Span) (path : Path) (kind : Kind) → StepsOn far g f kind → Steps far (kind_rows g path kind) (kind_rows f path kind) (left_of g kind) (left_of f kind)
kind_steps far g f path (Charted block) s = rows_steps far g f path (variables (Charted block)) s
kind_steps far g f path (Serviced service) s = record { moves = inl refl; less = λ e. omega arith }

leaves_steps : (far : Bool) (g f : Leaf → Variable → Span) (all : List Leaf) → AllByRecursion (λ (leaf : Leaf). StepsOn far (g leaf) (f leaf) leaf.kind) all → Steps far (leaf_rows g all) (leaf_rows f all) (left_in g all) (left_in f all)
leaves_steps far g f [] s = record { moves = inl refl; less = λ e. omega arith }
leaves_steps far g f (leaf ∷ rest) s =
    append_steps far (kind_rows (g leaf) leaf.path leaf.kind) (kind_rows (f leaf) leaf.path leaf.kind) (leaf_rows g rest) (leaf_rows f rest) (left_of (g leaf) leaf.kind) (left_of (f leaf) leaf.kind) (left_in g rest) (left_in f rest)
    (kind_length (g leaf) (f leaf) leaf.path leaf.kind) (kind_steps far (g leaf) (f leaf) leaf.path leaf.kind s.0) (leaves_steps far g f rest s.1)

-- ---- a round

-- the rows after a round, from these before it
abbrev after : ℕ → List Leaf → List Range → Leaf → Variable → Span
after n all xs leaf v = widened n v.type (row_of xs leaf.path leaf.kind v) (asked xs all leaf v)

leaf_goes : (n : ℕ) (all : List Leaf) (xs : List Range) (f : Leaf → Variable → Span) (leaf : Leaf) (kind : Kind) → leaf.kind ≡ kind
    → AllByRecursion (λ (v : Variable). row_of xs leaf.path leaf.kind v ≡ settled kind v (f leaf v)) (variables kind) → StepsOn (nat_lt 64 n) (after n all xs leaf) (f leaf) kind
leaf_goes n all xs f leaf (Charted block) is stand =
    all_weaker (λ (v : Variable). row_of xs leaf.path leaf.kind v ≡ (if is_boolean v.type then whole v.type else f leaf v))
    (λ (v : Variable). is_boolean v.type ≡ false → Steps (nat_lt 64 n) (after n all xs leaf v) (f leaf v) (open_ends v.type (after n all xs leaf v)) (open_ends v.type (f leaf v))) (variables (Charted block))
    (λ v e b.
    let old = row_of xs leaf.path leaf.kind v in
    let s : old ≡ f leaf v = e ∙ ap (λ t. if t then whole v.type else f leaf v) b in
    subst (λ (r : Span). Steps (nat_lt 64 n) (after n all xs leaf v) r (open_ends v.type (after n all xs leaf v)) (open_ends v.type r)) s (widened_steps n v.type old (asked xs all leaf v))) stand
leaf_goes n all xs f leaf (Serviced service) is stand = tt

round_goes : (n : ℕ) (all leaves : List Leaf) (xs : List Range) (f : Leaf → Variable → Span) → AllByRecursion (RowsStand f xs) leaves → AllByRecursion (λ (leaf : Leaf). StepsOn (nat_lt 64 n) (after n all xs leaf) (f leaf) leaf.kind) leaves
round_goes n all [] xs f s = tt
round_goes n all (leaf ∷ rest) xs f s = (leaf_goes n all xs f leaf leaf.kind refl s.0, round_goes n all rest xs f s.1)

one_round : (n : ℕ) (all : List Leaf) (f : Leaf → Variable → Span) → AreApart all → AllByRecursion (IsFed all) all
    → Steps (nat_lt 64 n) (round n all (leaf_rows f all)) (leaf_rows f all) (left_in (after n all (leaf_rows f all)) all) (left_in f all)
one_round n all f apart feds =
    leaves_steps (nat_lt 64 n) (after n all (leaf_rows f all)) f all (round_goes n all all (leaf_rows f all) f (rows_stand f all apart (all_own all all feds)))

-- ---- all rounds

still_late : (n : ℕ) → nat_lt 64 n ≡ true → nat_lt 64 (n + 1) ≡ true
still_late n e = grind (arith, nat_tests)

late_rounds : (m n : ℕ) (all : List Leaf) (f : Leaf → Variable → Span) → AreApart all → AllByRecursion (IsFed all) all → nat_lt 64 n ≡ true → left_in f all ≤ m → (zs : List Range) × Settles all n (leaf_rows f all) zs
late_rounds zero n all f apart feds late few =
    elim (one_round n all f apart feds).moves [
      | inl e ↦ (leaf_rows f all, ends e)
      | inr d ↦ absurd (omega (arith, d.1 late, few))
    ]
late_rounds (suc m) n all f apart feds late few =
    elim (one_round n all f apart feds).moves [
      | inl e ↦ (leaf_rows f all, ends e)
      | inr d ↦ let r = late_rounds m (n + 1) all (after n all (leaf_rows f all)) apart feds (still_late n late) (omega (arith, d.1 late, few)) in (r.0, goes_on d.0 r.1)
    ]

early_rounds : (k n : ℕ) (all : List Leaf) (f : Leaf → Variable → Span) → AreApart all → AllByRecursion (IsFed all) all → 65 ≤ n + k → (zs : List Range) × Settles all n (leaf_rows f all) zs
early_rounds zero n all f apart feds l = late_rounds (left_in f all) n all f apart feds (let h : 64 < n = omega (arith, l) in grind (arith, nat_tests)) (omega arith)
early_rounds (suc k) n all f apart feds l =
    elim (one_round n all f apart feds).moves [
      | inl e ↦ (leaf_rows f all, ends e)
      | inr d ↦ let r = early_rounds k (n + 1) all (after n all (leaf_rows f all)) apart feds (omega (arith, l)) in (r.0, goes_on d.0 r.1)
    ]

pub rounds_end : (all : List Leaf) → AreApart all → AllByRecursion (IsFed all) all → (zs : List Range) × Settles all 1 (start_rows all) zs
rounds_end all apart feds = early_rounds 64 1 all (λ leaf v. held (numbers_of (first_value leaf v))) apart feds (omega arith)
