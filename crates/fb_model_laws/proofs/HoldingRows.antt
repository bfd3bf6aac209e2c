-- Rows of all rounds lie in their types and hold what variables have at first; those of the last round hold what inputs take.
use Rattle.std.proofs.Common.{ℕ, ◌≡◌, ◌+◌, Bool, true, false, ◌||◌, List, [], ◌∷◌, ◌++◌, Option, None, Some, refl, sym, ap, subst, ◌∙◌, arith, if◌then◌else◌}
use Rattle.std.specs.Str.{bytes_eq}
use Rattle.std.specs.List.{AllByRecursion}
use Rattle.std.proofs.lemmas.Int.{ints}
use Rattle.fb_words.specs.declared.elem_type.ElemType.{ElemType}
use Rattle.fb_model.specs.Names.{Name, is_in}
use Rattle.fb_model.specs.Values.{numbers_of}
use Rattle.fb_model.specs.System.{Variable, start_of}
use Rattle.fb_model.specs.NetworkTyping.{variable_named}
use Rattle.fb_model.specs.Wires.{Source, Output_of, Constant, Kind, Charted, Serviced, Leaf}
use Rattle.fb_model.specs.Store.{variable_names, inputs, outputs, internals, first_input}
use Rattle.fb_model.specs.Spans.{Span, whole}
use Rattle.fb_model.specs.Ranges.{Range, variables, row_of}
use Rattle.fb_model.specs.Certificates.{is_boolean}
use Rattle.fb_model.proofs.Lists.{same_name, all_append, all_weaker, all_both}
use Rattle.fb_model_laws.specs.Leaves.{AreApart, HasType, AreFirst, StartsFit, IsGoodKind, Yields, Feeds, IsFed}
use Rattle.fb_model.specs.FinderRanges.{held, first_value, fed, asked, widened, round, start_rows, Settles, ends, goes_on}
use Rattle.fb_model_laws.specs.Holding.{IsGoodRow, LeafIsGood}
use Rattle.fb_model_laws.proofs.Spans.{Inside, inside_is, inside_within, in_more, held_holds, held_typed, widened_typed, widened_more}
use Rattle.fb_model_laws.proofs.Looking.{settled, AreSame, AreOwn, RowsStand, rows_stand}

-- ---- what typing says of a leaf's variables

pub all_first : (kind : Kind) → IsGoodKind kind → AreFirst (variables kind) (variables kind)
all_first kind g = all_append _ (inputs kind) (outputs kind ++ internals kind) g.inputs_first (all_append _ (outputs kind) (internals kind) g.outputs_first g.internals_first)

all_start : (kind : Kind) → IsGoodKind kind → StartsFit (variables kind)
all_start kind g = all_append _ (inputs kind) (outputs kind ++ internals kind) g.inputs_start (all_append _ (outputs kind) (internals kind) g.outputs_start g.internals_start)

pub own_variables : (kind : Kind) → IsGoodKind kind → AreOwn kind
own_variables kind g =
    let first = all_first kind g in
    all_weaker (λ (v : Variable). variable_named (variables kind) v.name ≡ Some v) (λ (v : Variable). (variable_named (variables kind) v.name ≡ Some v) × AreSame v (variables kind)) (variables kind)
    (λ v e. (
      e,
      all_weaker (λ (x : Variable). variable_named (variables kind) x.name ≡ Some x) (λ (x : Variable). bytes_eq v.name x.name ≡ true → x ≡ v) (variables kind)
          (λ x f b. let n : v.name ≡ x.name = same_name v.name x.name b in let s : Some x ≡ Some v = sym f ∙ ap (variable_named (variables kind)) (sym n) ∙ e in cc) first,
    )) first

-- a name among those of variables is that of one
named_some : (vs : List Variable) (x : Name) → is_in x (variable_names vs) ≡ true → (v : Variable) × (variable_named vs x ≡ Some v)
named_some [] x h = absurd cc
named_some (w ∷ ws) x h = by (bytes_eq x w.name) h (named_some ws x) where
  by : (b : Bool) → (b || is_in x (variable_names ws)) ≡ true → (is_in x (variable_names ws) ≡ true → (v : Variable) × (variable_named ws x ≡ Some v)) → (v : Variable) × ((if b then Some w else variable_named ws x) ≡ Some v)
  by true h f = (w, refl)
  by false h f = f h

named_none : (vs : List Variable) (x : Name) → is_in x (variable_names vs) ≡ false → variable_named vs x ≡ None
named_none [] x h = refl
named_none (w ∷ ws) x h = by (bytes_eq x w.name) h (named_none ws x) where
  by : (b : Bool) → (b || is_in x (variable_names ws)) ≡ false → (is_in x (variable_names ws) ≡ false → variable_named ws x ≡ None) → (if b then Some w else variable_named ws x) ≡ None
  by true h f = absurd cc
  by false h f = f h

-- what is found among the first variables is found among more
pub named_more : (vs ws : List Variable) (x : Name) (v : Variable) → variable_named vs x ≡ Some v → variable_named (vs ++ ws) x ≡ Some v
named_more [] ws x v e = absurd cc
named_more (u ∷ us) ws x v e = by (bytes_eq x u.name) e (named_more us ws x v) where
  by : (b : Bool) → (if b then Some u else variable_named us x) ≡ Some v → (variable_named us x ≡ Some v → variable_named (us ++ ws) x ≡ Some v) → (if b then Some u else variable_named (us ++ ws) x) ≡ Some v
  by true e f = e
  by false e f = f e

-- what a variable has at first lies in its type
input_typed : (all : List Leaf) (v : Variable) (s : Source) → HasType v.type (start_of v) → Yields all v.type s → HasType v.type (first_input s (start_of v))
input_typed all v (Output_of from y) t h = t
input_typed all v (Constant value) t h = h

first_typed : (all : List Leaf) (leaf : Leaf) (v : Variable) → IsFed all leaf → variable_named (variables leaf.kind) v.name ≡ Some v → HasType v.type (start_of v) → HasType v.type (first_value leaf v)
first_typed all leaf v f e t = by (is_in v.name (variable_names (inputs leaf.kind))) refl where
  by : (b : Bool) → is_in v.name (variable_names (inputs leaf.kind)) ≡ b → HasType v.type (if b then first_input (leaf.source v.name) (start_of v) else start_of v)
  by true h =
      let w = named_some (inputs leaf.kind) v.name h in
      let m : variable_named (variables leaf.kind) v.name ≡ Some w.0 = named_more (inputs leaf.kind) (outputs leaf.kind ++ internals leaf.kind) v.name w.0 w.1 in
      let s : Some w.0 ≡ Some v = sym m ∙ e in
      let q : w.0 ≡ v = cc in
      let n : variable_named (inputs leaf.kind) v.name ≡ Some v = w.1 ∙ ap Some q in
      input_typed all v (leaf.source v.name) t (subst (λ (o : Option Variable). Feeds all o (leaf.source v.name)) n (f.feeds v.name))
  by false h = t

-- ---- rows that are put are good

whole_inside : (a : ElemType) → Inside (whole a) (whole a)
whole_inside a = record { low = omega (arith, ints); high = omega (arith, ints) }

-- what is so of a row and of all of the type is so of the row that stands
settled_by : (P : Span → Type 0) (kind : Kind) (v : Variable) (r : Span) → P (whole v.type) → P r → P (settled kind v r)
settled_by P (Charted block) v r w h = by (is_boolean v.type) where
  by : (b : Bool) → P (if b then whole v.type else r)
  by true = w
  by false = h
settled_by P (Serviced service) v r w h = w

good_whole : (leaf : Leaf) (v : Variable) → HasType v.type (first_value leaf v) → IsGoodRow leaf v (whole v.type)
good_whole leaf v t = record { typed = inside_within (whole v.type) (whole v.type) (whole_inside v.type); begins = t }

good_start : (leaf : Leaf) (v : Variable) → HasType v.type (first_value leaf v) → IsGoodRow leaf v (held (numbers_of (first_value leaf v)))
good_start leaf v t = record {
  typed = inside_within (held (numbers_of (first_value leaf v))) (whole v.type) (held_typed v.type (numbers_of (first_value leaf v)) t);
  begins = held_holds (numbers_of (first_value leaf v));
}

good_wider : (leaf : Leaf) (v : Variable) (n : ℕ) (old r : Span) → IsGoodRow leaf v old → IsGoodRow leaf v (widened n v.type old r)
good_wider leaf v n old r g =
    let i = inside_is old (whole v.type) g.typed in
    record {
      typed = inside_within (widened n v.type old r) (whole v.type) (widened_typed n v.type old r i);
      begins = in_more old (widened n v.type old r) (numbers_of (first_value leaf v)) (widened_more n v.type old r i) g.begins;
    }

-- each variable is the first of its name, and what it has at first lies in its type
abbrev IsKnown : Leaf → Variable → Type 0
IsKnown leaf v = (variable_named (variables leaf.kind) v.name ≡ Some v) × HasType v.type (first_value leaf v)

known : (all : List Leaf) (leaf : Leaf) → IsFed all leaf → AllByRecursion (IsKnown leaf) (variables leaf.kind)
known all leaf f =
    all_both (λ (v : Variable). variable_named (variables leaf.kind) v.name ≡ Some v) (λ (v : Variable). HasType v.type (start_of v)) (IsKnown leaf) (variables leaf.kind)
    (λ v e t. (e, first_typed all leaf v f e t)) (all_first leaf.kind f.good) (all_start leaf.kind f.good)

-- rows that are put by good ones
put_good : (f : Leaf → Variable → Span) (ranges : List Range) (leaf : Leaf) → AllByRecursion (λ (v : Variable). HasType v.type (first_value leaf v) × IsGoodRow leaf v (f leaf v)) (variables leaf.kind) → RowsStand f ranges leaf → LeafIsGood ranges leaf
put_good f ranges leaf k s =
    all_both (λ (v : Variable). HasType v.type (first_value leaf v) × IsGoodRow leaf v (f leaf v)) (λ (v : Variable). row_of ranges leaf.path leaf.kind v ≡ settled leaf.kind v (f leaf v)) (λ (v : Variable). IsGoodRow leaf v (row_of ranges leaf.path leaf.kind v)) (variables leaf.kind)
    (λ v h e. subst (λ (r : Span). IsGoodRow leaf v r) (sym e) (settled_by (IsGoodRow leaf v) leaf.kind v (f leaf v) (good_whole leaf v h.0) h.1)) k s

start_good : (all leaves : List Leaf) → AllByRecursion (IsFed all) leaves → (ranges : List Range) → AllByRecursion (RowsStand (λ leaf v. held (numbers_of (first_value leaf v))) ranges) leaves → AllByRecursion (LeafIsGood ranges) leaves
start_good all [] f ranges s = tt
start_good all (leaf ∷ rest) f ranges s = (
  put_good (λ l v. held (numbers_of (first_value l v))) ranges leaf (all_weaker (IsKnown leaf) (λ (v : Variable). HasType v.type (first_value leaf v) × IsGoodRow leaf v (held (numbers_of (first_value leaf v)))) (variables leaf.kind) (λ v k. (k.1, good_start leaf v k.1)) (known all leaf f.0)) s.0,
  start_good all rest f.1 ranges s.1,
)

round_good : (n : ℕ) (all leaves : List Leaf) (before after : List Range) → AllByRecursion (IsFed all) leaves → AllByRecursion (LeafIsGood before) leaves
    → AllByRecursion (RowsStand (λ leaf v. widened n v.type (row_of before leaf.path leaf.kind v) (asked before all leaf v)) after) leaves → AllByRecursion (LeafIsGood after) leaves
round_good n all [] before after f g s = tt
round_good n all (leaf ∷ rest) before after f g s = (
  put_good (λ l v. widened n v.type (row_of before l.path l.kind v) (asked before all l v)) after leaf
      (all_both (IsKnown leaf) (λ (v : Variable). IsGoodRow leaf v (row_of before leaf.path leaf.kind v)) (λ (v : Variable). HasType v.type (first_value leaf v) × IsGoodRow leaf v (widened n v.type (row_of before leaf.path leaf.kind v) (asked before all leaf v))) (variables leaf.kind)
      (λ v k h. (k.1, good_wider leaf v n (row_of before leaf.path leaf.kind v) (asked before all leaf v) h)) (known all leaf f.0) g.0) s.0,
  round_good n all rest before after f.1 g.1 s.1,
)

pub all_own : (all leaves : List Leaf) → AllByRecursion (IsFed all) leaves → AllByRecursion (λ (leaf : Leaf). AreOwn leaf.kind) leaves
all_own all leaves f = all_weaker (IsFed all) (λ (leaf : Leaf). AreOwn leaf.kind) leaves (λ leaf h. own_variables leaf.kind h.good) f

-- ---- the last round

-- rows that a round from there leaves as they are, and which were good
pub record AreSettled (all : List Leaf) (zs : List Range) : Type 0 where
  pub n : ℕ
  pub stays : round n all zs ≡ zs
  pub good : AllByRecursion (LeafIsGood zs) all

pub settle_good : (all : List Leaf) (n : ℕ) (xs zs : List Range) → AreApart all → AllByRecursion (IsFed all) all → AllByRecursion (LeafIsGood xs) all → Settles all n xs zs → AreSettled all zs
settle_good all n xs zs apart fed good (ends e) = record { n = n; stays = e; good = good }
settle_good all n xs zs apart fed good (goes_on d s) =
    settle_good all (n + 1) (round n all xs) zs apart fed
    (round_good n all all xs (round n all xs) fed good (rows_stand (λ leaf v. widened n v.type (row_of xs leaf.path leaf.kind v) (asked xs all leaf v)) all apart (all_own all all fed))) s

pub last_good : (all : List Leaf) (zs : List Range) → AreApart all → AllByRecursion (IsFed all) all → Settles all 1 (start_rows all) zs → AreSettled all zs
last_good all zs apart fed s =
    settle_good all 1 (start_rows all) zs apart fed (start_good all all fed (start_rows all) (rows_stand (λ leaf v. held (numbers_of (first_value leaf v))) all apart (all_own all all fed))) s
