-- The rows of the last round hold what inputs take.
use Rattle.std.proofs.Common.{ℕ, ◌≡◌, pos, Bool, true, false, List, [], ◌∷◌, ◌++◌, Option, None, Some, refl, sym, ap, subst, ◌∙◌, arith, if◌then◌else◌}
use Rattle.std.specs.Str.{bytes_eq}
use Rattle.std.specs.List.{AllByRecursion}
use Rattle.std.proofs.lemmas.Int.{ints, clamps}
use Rattle.fb_model.specs.Names.{Name, Path, path_eq}
use Rattle.fb_model.specs.Values.{One}
use Rattle.fb_model.specs.Declarations.{BlockTree, SourceTree}
use Rattle.fb_model.specs.System.{Variable, Device, System}
use Rattle.fb_model.specs.NetworkTyping.{variable_named, ElaboratesWith}
use Rattle.fb_model.specs.Wires.{Source, Output_of, Constant, Kind, Charted, Serviced, Leaf, leaf_at, leaves}
use Rattle.fb_model.specs.Store.{inputs, outputs, internals}
use Rattle.fb_model.specs.Spans.{Span, whole, joined}
use Rattle.fb_model.specs.Ranges.{Range, variables, row_of, rows, SourceFits}
use Rattle.fb_model.specs.Certificates.{is_boolean}
use Rattle.fb_model.proofs.Lists.{same_name, same_path, all_both}
use Rattle.fb_model_laws.specs.Leaves.{AreApart, IsGivenBy, Yields, Feeds, IsFed}
use Rattle.fb_model_laws.proofs.Paths.{all_apart}
use Rattle.fb_model_laws.proofs.Values.{all_fed}
use Rattle.fb_model.specs.FinderRanges.{fed, worked, asked, widened, start_rows, Settles, IsLast}
use Rattle.fb_model_laws.specs.Holding.{IsGoodRow, LeafIsGood, LeafIsFed}
use Rattle.fb_model_laws.proofs.Spans.{Inside, inside_is, inside_within, stays_holds}
use Rattle.fb_model_laws.proofs.Looking.{settled, RowsStand, rows_stand}
use Rattle.fb_model_laws.proofs.HoldingRows.{named_more, all_first, all_own, last_good}

-- what is so of all leaves is so of the one at a path
pub at_leaf : (P : Leaf → Type 0) (all : List Leaf) (p : Path) (leaf : Leaf) → AllByRecursion P all → leaf_at all p ≡ Some leaf → P leaf × (leaf.path ≡ p)
at_leaf P [] p leaf a e = absurd cc
at_leaf P (l ∷ ls) p leaf a e = by (path_eq l.path p) refl e (at_leaf P ls p leaf a.1) where
  by : (b : Bool) → path_eq l.path p ≡ b → (if b then Some l else leaf_at ls p) ≡ Some leaf → (leaf_at ls p ≡ Some leaf → P leaf × (leaf.path ≡ p)) → P leaf × (leaf.path ≡ p)
  by true d s f = let q : l ≡ leaf = cc in (subst P q a.0, ap (λ (x : Leaf). x.path) (sym q) ∙ same_path l.path p d)
  by false d s f = f s

-- and of the variable of a name
at_variable : (P : Variable → Type 0) (vs : List Variable) (x : Name) (v : Variable) → AllByRecursion P vs → variable_named vs x ≡ Some v → P v × (v.name ≡ x)
at_variable P [] x v a e = absurd cc
at_variable P (w ∷ ws) x v a e = by (bytes_eq x w.name) refl e (at_variable P ws x v a.1) where
  by : (b : Bool) → bytes_eq x w.name ≡ b → (if b then Some w else variable_named ws x) ≡ Some v → (variable_named ws x ≡ Some v → P v × (v.name ≡ x)) → P v × (v.name ≡ x)
  by true d s f = let q : w ≡ v = cc in (subst P q a.0, ap (λ (y : Variable). y.name) (sym q) ∙ sym (same_name x w.name d))
  by false d s f = f s

-- the row of an output, by its name
row_there : (zs : List Range) (from : Path) (kind : Kind) (y : Name) (w : Variable) → variable_named (variables kind) y ≡ Some w → rows zs from kind y ≡ row_of zs from kind w
row_there zs from kind y w e = rw (e, rows) refl

-- the row of an output that an input takes lies in the input's type
source_inside : (all : List Leaf) (zs : List Range) (v : Variable) (from : Path) (y : Name) → AllByRecursion (IsFed all) all → AllByRecursion (LeafIsGood zs) all → (g : IsGivenBy all v.type from y) → Inside (rows zs from g.leaf.kind y) (whole v.type)
source_inside all zs v from y feds goods g =
    let kind = g.leaf.kind in
    let f = at_leaf (IsFed all) all from g.leaf feds g.found in
    let h = at_leaf (LeafIsGood zs) all from g.leaf goods g.found in
    let first = at_variable (λ (u : Variable). variable_named (variables kind) u.name ≡ Some u) (outputs kind) y g.variable f.0.good.outputs_first g.is in
    let named : variable_named (variables kind) y ≡ Some g.variable = subst (λ (x : Name). variable_named (variables kind) x ≡ Some g.variable) first.1 first.0 in
    let row = at_variable (λ (u : Variable). IsGoodRow g.leaf u (row_of zs g.leaf.path kind u)) (variables kind) y g.variable h.0 named in
    let here : Inside (row_of zs g.leaf.path kind g.variable) (whole g.variable.type) = inside_is _ _ row.0.typed in
    let there : row_of zs g.leaf.path kind g.variable ≡ rows zs from kind y = ap (λ (p : Path). row_of zs p kind g.variable) f.1 ∙ sym (row_there zs from kind y g.variable named) in
    subst (λ (r : Span). Inside r (whole v.type)) there (record { low = omega (arith, ints, here.low, g.wider.0); high = omega (arith, ints, here.high, g.wider.1) })

-- a row that stands, and that a round leaves as it is
stands_over : (n : ℕ) (kind : Kind) (v : Variable) (r a s : Span) → r ≡ settled kind v (widened n v.type r a) → Inside s (whole v.type) → Inside s a → Inside s r
stands_over n (Charted block) v r a s e t i = by (is_boolean v.type) e where
  by : (b : Bool) → r ≡ (if b then whole v.type else widened n v.type r a) → Inside s r
  by true d = subst (λ (w : Span). Inside s w) (sym d) t
  by false d = stays_holds n v.type r a s (sym d) t i
stands_over n (Serviced service) v r a s e t i = subst (λ (w : Span). Inside s w) (sym e) t

fed_found : (zs : List Range) (all : List Leaf) (from : Path) (y : Name) (r : Span) (leaf : Leaf) → leaf_at all from ≡ Some leaf → fed zs all (Output_of from y) r ≡ joined r (rows zs from leaf.kind y)
fed_found zs all from y r leaf e = rw (e, fed) refl

joined_holds : (r s : Span) → Inside s (joined r s)
joined_holds r s = record { low = omega (arith, ints, clamps); high = omega (arith, ints, clamps) }

-- what an input takes lies in its row
source_fits : (all : List Leaf) (zs : List Range) (n : ℕ) (leaf : Leaf) (v : Variable) → AllByRecursion (IsFed all) all → AllByRecursion (LeafIsGood zs) all → (s : Source) → leaf.source v.name ≡ s → Yields all v.type s
    → row_of zs leaf.path leaf.kind v ≡ settled leaf.kind v (widened n v.type (row_of zs leaf.path leaf.kind v) (asked zs all leaf v)) → SourceFits zs all (row_of zs leaf.path leaf.kind v) s
source_fits all zs n leaf v feds goods (Constant value) is y e = tt
source_fits all zs n leaf v feds goods (Output_of from y) is g e =
    let own = worked (rows zs leaf.path leaf.kind) leaf.kind v.name in
    let s = rows zs from g.leaf.kind y in
    let a : asked zs all leaf v ≡ joined own s = ap (λ (x : Source). fed zs all x own) is ∙ fed_found zs all from y own g.leaf g.found in
    let inside : Inside s (asked zs all leaf v) = subst (λ (r : Span). Inside s r) (sym a) (joined_holds own s) in
    (g.leaf, g.found, inside_within s (row_of zs leaf.path leaf.kind v) (stands_over n leaf.kind v (row_of zs leaf.path leaf.kind v) (asked zs all leaf v) s e (source_inside all zs v from y feds goods g) inside))

variable_fits : (all : List Leaf) (zs : List Range) (n : ℕ) (leaf : Leaf) (v : Variable) → AllByRecursion (IsFed all) all → AllByRecursion (LeafIsGood zs) all → IsFed all leaf → variable_named (variables leaf.kind) v.name ≡ Some v
    → row_of zs leaf.path leaf.kind v ≡ settled leaf.kind v (widened n v.type (row_of zs leaf.path leaf.kind v) (asked zs all leaf v)) → SourceFits zs all (row_of zs leaf.path leaf.kind v) (leaf.source v.name)
variable_fits all zs n leaf v feds goods f first e = by (variable_named (inputs leaf.kind) v.name) refl where
  by : (o : Option Variable) → variable_named (inputs leaf.kind) v.name ≡ o → SourceFits zs all (row_of zs leaf.path leaf.kind v) (leaf.source v.name)
  by None d = let c : leaf.source v.name ≡ Constant (One (pos 0)) = subst (λ (o : Option Variable). Feeds all o (leaf.source v.name)) d (f.feeds v.name) in rw c tt
  by (Some w) d =
      let m : variable_named (variables leaf.kind) v.name ≡ Some w = named_more (inputs leaf.kind) (outputs leaf.kind ++ internals leaf.kind) v.name w d in
      let s : Some w ≡ Some v = sym m ∙ first in
      let q : w ≡ v = cc in
      let y : Yields all v.type (leaf.source v.name) = subst (λ (o : Option Variable). Feeds all o (leaf.source v.name)) (d ∙ ap Some q) (f.feeds v.name) in
      source_fits all zs n leaf v feds goods (leaf.source v.name) refl y e

leaf_fits : (all : List Leaf) (zs : List Range) (n : ℕ) (leaf : Leaf) → AllByRecursion (IsFed all) all → AllByRecursion (LeafIsGood zs) all → IsFed all leaf → RowsStand (λ l v. widened n v.type (row_of zs l.path l.kind v) (asked zs all l v)) zs leaf → LeafIsFed zs all leaf
leaf_fits all zs n leaf feds goods f stand =
    all_both (λ (v : Variable). variable_named (variables leaf.kind) v.name ≡ Some v) (λ (v : Variable). row_of zs leaf.path leaf.kind v ≡ settled leaf.kind v (widened n v.type (row_of zs leaf.path leaf.kind v) (asked zs all leaf v)))
    (λ (v : Variable). SourceFits zs all (row_of zs leaf.path leaf.kind v) (leaf.source v.name)) (variables leaf.kind)
    (λ v first e. variable_fits all zs n leaf v feds goods f first e) (all_first leaf.kind f.good) stand

pub last_rows_hold : (all : List Leaf) (zs : List Range) → AreApart all → AllByRecursion (IsFed all) all → Settles all 1 (start_rows all) zs → AllByRecursion (λ (leaf : Leaf). LeafIsGood zs leaf × LeafIsFed zs all leaf) all
last_rows_hold all zs apart feds s =
    let k = last_good all zs apart feds s in
    let f : Leaf → Variable → Span = λ l v. widened k.n v.type (row_of zs l.path l.kind v) (asked zs all l v) in
    let stand : AllByRecursion (RowsStand f zs) all = subst (λ (xs : List Range). AllByRecursion (RowsStand f xs) all) k.stays (rows_stand f all apart (all_own all all feds)) in
    all_both (LeafIsGood zs) (λ (leaf : Leaf). LeafIsFed zs all leaf) (λ (leaf : Leaf). LeafIsGood zs leaf × LeafIsFed zs all leaf) all (λ leaf g h. (g, h)) k.good
    (all_both (IsFed all) (RowsStand f zs) (λ (leaf : Leaf). LeafIsFed zs all leaf) all (λ leaf h t. leaf_fits all zs k.n leaf feds k.good h t) feds stand)

-- what holds of the rows of each device after its last round
pub all_last_rows_hold : (library : List BlockTree) (source : SourceTree) (system : System) → ElaboratesWith library source system
    → AllByRecursion (λ (d : Device). (zs : List Range) → IsLast (leaves d) zs → AllByRecursion (λ (leaf : Leaf). LeafIsGood zs leaf × LeafIsFed zs (leaves d) leaf) (leaves d)) system.devices
all_last_rows_hold library source system e =
    all_both (λ (d : Device). AreApart (leaves d)) (λ (d : Device). AllByRecursion (IsFed (leaves d)) (leaves d))
    (λ (d : Device). (zs : List Range) → IsLast (leaves d) zs → AllByRecursion (λ (leaf : Leaf). LeafIsGood zs leaf × LeafIsFed zs (leaves d) leaf) (leaves d)) system.devices
    (λ d apart fed zs s. last_rows_hold (leaves d) zs apart fed s) (all_apart library source system e) (all_fed library source system e)
