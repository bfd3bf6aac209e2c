-- What is asked of a leaf's rows, over tables and in the book.
use Rattle.std.proofs.Common.{◌≡◌, Bool, true, false, List, [], ◌∷◌, Option, None, Some, refl, ap, ap₂, ◌∙◌, arith, if◌then◌else◌}
use Rattle.std.specs.Int.{int_min, int_max}
use Rattle.std.specs.Option.{option_map}
use Rattle.std.proofs.lemmas.Int.{ints, clamps}
use Rattle.fb_words.specs.declared.elem_type.ElemType.TheVariants as t
use Rattle.fb_model.specs.Names.{Name, Path, path_eq}
use Rattle.fb_model.specs.System.{Variable, Procedure, Service}
use Rattle.fb_model.specs.NetworkTyping.{variable_named}
use Rattle.fb_model.specs.Wires.{Source, Output_of, Constant, Kind, Charted, Serviced, Leaf, leaf_at}
use Rattle.fb_model.specs.Spans.{Span, span, whole, joined}
use Rattle.fb_model.specs.Clear.{Spans}
use Rattle.fb_model.specs.Ranges.{Range, variables, rows, row_of}
use Rattle.fb_model.proofs.Lists.{same_path}
use Rattle.fb_model.specs.Asking.{grown}
use Rattle.fb_model.specs.FinderRanges.{fed, worked_on, worked, asked}
use Rattle.fb_check_ranges.specs.Rows.{type_in, numbers_in}
use Rattle.fb_find_ranges.specs.Lines.{Tabled, tabled_at, given, fed_in, all_grown, grown_by, joined_all, asked_in}

-- ---- algorithms

pub joined_swap : (r s u : Span) → joined (joined r s) u ≡ joined (joined r u) s
joined_swap r s u =
    let low : int_min (int_min r.low s.low) u.low ≡ int_min (int_min r.low u.low) s.low = omega (arith, ints, clamps) in
    let high : int_max (int_max r.high s.high) u.high ≡ int_max (int_max r.high u.high) s.high = omega (arith, ints, clamps) in
    ap₂ span low high

joined_last : (spans : Spans) (ps : List Procedure) (x : Name) (r s : Span) → joined_all (all_grown spans ps) x (joined r s) ≡ joined (joined_all (all_grown spans ps) x r) s
joined_last spans [] x r s = refl
joined_last spans (p ∷ ps) x r s =
    let g = grown spans p.algorithm x in
    ap (joined_all (all_grown spans ps) x) (joined_swap r s g) ∙ joined_last spans ps x (joined r g) s

work_on : (spans : Spans) (ps : List Procedure) (x : Name) → joined_all (all_grown spans ps) x (spans x) ≡ worked_on spans ps x
work_on spans [] x = refl
work_on spans (p ∷ ps) x = let g = grown spans p.algorithm x in joined_last spans ps x (spans x) g ∙ ap (λ r. joined r g) (work_on spans ps x)

work_is : (spans : Spans) (kind : Kind) (x : Name) → joined_all (grown_by spans kind) x (spans x) ≡ worked spans kind x
work_is spans (Charted block) x = work_on spans block.procedures x
work_is spans (Serviced service) x = refl

-- ---- sources

-- a leaf of tables is this leaf of the book, whose rows its table gives
pub record IsTabled (ranges : List Range) (t : Tabled) (b : Leaf) : Type 0 where
  pub path : t.leaf.path ≡ b.path
  pub gives : (y : Name) → given t.leaf.kind t.spans y ≡ rows ranges b.path b.kind y

abbrev pub AreTabled : List Range → List Tabled → List Leaf → Type 0
AreTabled ranges [] [] = Unit {0}
AreTabled ranges (t ∷ ts) (b ∷ bs) = IsTabled ranges t b × AreTabled ranges ts bs
AreTabled ranges [] (b ∷ bs) = ⊥
AreTabled ranges (t ∷ ts) [] = ⊥

at_same : (ranges : List Range) (ts : List Tabled) (bs : List Leaf) (from : Path) (y : Name) (r : Span) → AreTabled ranges ts bs
    → ◌≡◌ {A = Span} (elim (tabled_at ts from) [ None ↦ r | Some t ↦ joined r (given t.leaf.kind t.spans y) ]) (elim (leaf_at bs from) [ None ↦ r | Some leaf ↦ joined r (rows ranges from leaf.kind y) ])
at_same ranges [] [] from y r a = refl
at_same ranges [] (b ∷ bs) from y r a = absurd a
at_same ranges (t ∷ ts) [] from y r a = absurd a
at_same ranges (t ∷ ts) (b ∷ bs) from y r a = by (path_eq t.leaf.path from) (path_eq b.path from) (ap (λ p. path_eq p from) a.0.path) refl (at_same ranges ts bs from y r a.1) where
  by : (c d : Bool) → c ≡ d → path_eq b.path from ≡ d
      → ◌≡◌ {A = Span} (elim (tabled_at ts from) [ None ↦ r | Some u ↦ joined r (given u.leaf.kind u.spans y) ]) (elim (leaf_at bs from) [ None ↦ r | Some leaf ↦ joined r (rows ranges from leaf.kind y) ])
      → ◌≡◌ {A = Span} (elim (if c then Some t else tabled_at ts from) [ None ↦ r | Some u ↦ joined r (given u.leaf.kind u.spans y) ]) (elim (if d then Some b else leaf_at bs from) [ None ↦ r | Some leaf ↦ joined r (rows ranges from leaf.kind y) ])
  by true true e is next = ap (joined r) (a.0.gives y ∙ ap (λ p. rows ranges p b.kind y) (same_path b.path from is))
  by false false e is next = next
  by true false e is next = absurd cc
  by false true e is next = absurd cc

fed_is : (ranges : List Range) (ts : List Tabled) (bs : List Leaf) (s : Source) (r : Span) → AreTabled ranges ts bs → fed_in ts s r ≡ fed ranges bs s r
fed_is ranges ts bs (Output_of from y) r a = at_same ranges ts bs from y r a
fed_is ranges ts bs (Constant value) r a = refl

-- ---- all that is asked

pub asked_is : (ranges : List Range) (ts : List Tabled) (bs : List Leaf) (t : Tabled) (b : Leaf) (v : Variable) → AreTabled ranges ts bs → t.leaf.kind ≡ b.kind → t.spans ≡ rows ranges b.path b.kind → t.leaf.source v.name ≡ b.source v.name
    → asked_in ts t v.name ≡ asked ranges bs b v
asked_is ranges ts bs t b v a kind spans source =
    ap₂ (λ s r. fed_in ts s r) source (work_is t.spans t.leaf.kind v.name ∙ ap₂ (λ q k. worked q k v.name) spans kind)
    ∙ fed_is ranges ts bs (b.source v.name) (worked (rows ranges b.path b.kind) b.kind v.name) a

-- ---- services

pub port_is : (ranges : List Range) (path : Path) (service : Service) (y : Name) → numbers_in (type_in (variables (Serviced service)) y) ≡ rows ranges path (Serviced service) y
port_is ranges path service y = by (variable_named (variables (Serviced service)) y) where
  by : (o : Option Variable) → numbers_in (option_map (λ (v : Variable). v.type) o) ≡ elim o [ None ↦ whole t.Lint | Some v ↦ row_of ranges path (Serviced service) v ]
  by None = refl
  by (Some v) = refl
