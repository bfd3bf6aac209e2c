-- The states of leaves, by their numbers.
use Rattle.std.proofs.Common.{◌≡◌, ℕ, zero, suc, ◌+◌, ◌≤◌, Bool, true, false, cond, List, [], ◌∷◌, set, slice_get, Option, Some, None, refl, sym, ◌∙◌, ap, subst, arith}
use Rattle.std.proofs.Math.Path.{fun_ext}
use Rattle.std.proofs.lemmas.Bool.{cond-true, cond-false}
use Rattle.fb_model.specs.Names.{Path, path_eq}
use Rattle.fb_model.specs.Wires.{Kind, Leaf}
use Rattle.fb_model.specs.Store.{LeafState, with_leaf}
use Rattle.fb_model.proofs.Lists.{same_path}
use Rattle.fb_model.proofs.Placed.{path_same}
use Rattle.fb_model_laws.specs.Leaves.{AreApart}
use Rattle.st_exec.specs.Cells.{Cell}
use Rattle.fb_chart.specs.declared.memory.Condition.{Condition}
use Rattle.fb_chart.specs.declared.memory.Condition.TheVariants as c
use Rattle.fb_chart.specs.Conditions.{leaf_state}
use Rattle.fb_device_state.specs.Machines.{cells_at, remembered, standing, store_from}
use Rattle.fb_lists.proofs.Lists.{all_got, get_other, set_stands}

-- a leaf is in the state of its number
pub stored : (k : ℕ) (all : List Leaf) (f : ℕ → Kind → LeafState) (i : ℕ) (leaf : Leaf) → AreApart all → slice_get all i ≡ Some leaf → store_from k all f leaf.path ≡ f (k + i) leaf.kind
stored k [] f i leaf a h = cc
stored k (l ∷ ls) f zero leaf a h =
    let e : l ≡ leaf = cc in
    let n : k ≡ k + zero = omega arith in
    cond-true (path_eq l.path leaf.path) (f k l.kind) (store_from (k + 1) ls f leaf.path) (ap (λ (j : Leaf). path_eq j.path leaf.path) e ∙ path_same leaf.path) ∙ ap (λ (j : Leaf). f k j.kind) e ∙ ap (λ m. f m leaf.kind) n
stored k (l ∷ ls) f (suc i) leaf a h =
    let n : k + 1 + i ≡ k + suc i = omega arith in
    cond-false (path_eq l.path leaf.path) (f k l.kind) (store_from (k + 1) ls f leaf.path) (all_got (λ (j : Leaf). path_eq l.path j.path ≡ false) ls i leaf a.0 h) ∙ stored (k + 1) ls f i leaf a.1 h ∙ ap (λ m. f m leaf.kind) n

-- leaves whose states are as before
same_from : (k : ℕ) (ls : List Leaf) (f g : ℕ → Kind → LeafState) → ((j : ℕ) (kind : Kind) → k ≤ j → g j kind ≡ f j kind) → (p : Path) → store_from k ls g p ≡ store_from k ls f p
same_from k [] f g h p = refl
same_from k (l ∷ ls) f g h p =
    ap (λ s. cond (path_eq l.path p) s (store_from (k + 1) ls g p)) (h k l.kind (omega arith)) ∙ ap (λ s. cond (path_eq l.path p) (f k l.kind) s) (same_from (k + 1) ls f g (λ j kind le. h j kind (omega (arith, le))) p)

-- one leaf has come to another state
changed_at : (k : ℕ) (all : List Leaf) (f g : ℕ → Kind → LeafState) (i : ℕ) (leaf : Leaf) → AreApart all → slice_get all i ≡ Some leaf → ((j : ℕ) (kind : Kind) → (k + i ≡ j → ⊥) → g j kind ≡ f j kind)
    → (p : Path) → store_from k all g p ≡ with_leaf (store_from k all f) leaf.path (g (k + i) leaf.kind) p
changed_at k [] f g i leaf a h c p = cc
changed_at k (l ∷ ls) f g zero leaf a h c p =
    let e : l ≡ leaf = cc in
    let n : k + zero ≡ k = omega arith in
    let rest : store_from (k + 1) ls g p ≡ store_from (k + 1) ls f p = same_from (k + 1) ls f g (λ j kind le. c j kind (λ same. omega (arith, le, same))) p in
    subst (λ (j : Leaf). cond (path_eq l.path p) (g k l.kind) (store_from (k + 1) ls g p) ≡ cond (path_eq j.path p) (g (k + zero) j.kind) (cond (path_eq l.path p) (f k l.kind) (store_from (k + 1) ls f p))) e
    (ap (λ s. cond (path_eq l.path p) (g k l.kind) s) rest ∙ ap (λ m. cond (path_eq l.path p) (g m l.kind) (store_from (k + 1) ls f p)) (sym n) ∙ go (path_eq l.path p))
  where
    go : (b : Bool) → cond b (g (k + zero) l.kind) (store_from (k + 1) ls f p) ≡ cond b (g (k + zero) l.kind) (cond b (f k l.kind) (store_from (k + 1) ls f p))
    go true = refl
    go false = refl
changed_at k (l ∷ ls) f g (suc i) leaf a h c p =
    let n : k + 1 + i ≡ k + suc i = omega arith in
    let own : g k l.kind ≡ f k l.kind = c k l.kind (λ same. omega (arith, same)) in
    let rest = changed_at (k + 1) ls f g i leaf a.1 h (λ j kind ne. c j kind (λ same. ne (omega (arith, same)))) p in
    ap (λ s. cond (path_eq l.path p) s (store_from (k + 1) ls g p)) own ∙ ap (λ s. cond (path_eq l.path p) (f k l.kind) s) rest
    ∙ ap (λ m. cond (path_eq l.path p) (f k l.kind) (cond (path_eq leaf.path p) (g m leaf.kind) (store_from (k + 1) ls f p))) n ∙ go (path_eq l.path p) refl (path_eq leaf.path p) refl
  where
    go : (b : Bool) → path_eq l.path p ≡ b → (d : Bool) → path_eq leaf.path p ≡ d
        → cond b (f k l.kind) (cond d (g (k + suc i) leaf.kind) (store_from (k + 1) ls f p)) ≡ cond d (g (k + suc i) leaf.kind) (cond b (f k l.kind) (store_from (k + 1) ls f p))
    go true e true m =
        let same : l.path ≡ leaf.path = same_path l.path p e ∙ sym (same_path leaf.path p m) in
        let t : path_eq l.path leaf.path ≡ true = ap (λ q. path_eq l.path q) (sym same) ∙ path_same l.path in
        let u : path_eq l.path leaf.path ≡ false = all_got (λ (j : Leaf). path_eq l.path j.path ≡ false) ls i leaf a.0 h in
        let v : true ≡ false = sym t ∙ u in absurd cc
    go true e false m = refl
    go false e true m = refl
    go false e false m = refl

-- ---- stores and states by their numbers

pub cells_here : (stores : List (List Cell)) (k : ℕ) (cells : List Cell) → slice_get stores k ≡ Some cells → cells_at stores k ≡ cells
cells_here stores k cells h = ap (λ (o : Option (List Cell)). elim o [ None ↦ [] | Some c ↦ c ]) h

pub condition_here : (cs : List Condition) (k : ℕ) (n : Condition) → slice_get cs k ≡ Some n → remembered cs k ≡ n
condition_here cs k n h = ap (λ (o : Option Condition). elim o [ None ↦ c.State 0 | Some m ↦ m ]) h

pub standing_at : (own issued : List (List Cell)) (states : List Condition) (k : ℕ) (kind : Kind) (o x : List Cell) (n : Condition) → slice_get own k ≡ Some o → slice_get issued k ≡ Some x → slice_get states k ≡ Some n
    → standing own issued states k kind ≡ leaf_state kind o x n
standing_at own issued states k kind o x n a b d =
    ap (λ u. leaf_state kind u (cells_at issued k) (remembered states k)) (cells_here own k o a) ∙ ap (λ u. leaf_state kind o u (remembered states k)) (cells_here issued k x b) ∙ ap (leaf_state kind o x) (condition_here states k n d)

standing_other : (own issued : List (List Cell)) (states : List Condition) (i : ℕ) (o x : List Cell) (n : Condition) (j : ℕ) (kind : Kind) → (i ≡ j → ⊥) → standing (set own i o) (set issued i x) (set states i n) j kind ≡ standing own issued states j kind
standing_other own issued states i o x n j kind ne =
    ap (λ (u : Option (List Cell)). leaf_state kind (elim u [ None ↦ [] | Some c ↦ c ]) (cells_at (set issued i x) j) (remembered (set states i n) j)) (get_other own i j o ne)
    ∙ ap (λ (u : Option (List Cell)). leaf_state kind (cells_at own j) (elim u [ None ↦ [] | Some c ↦ c ]) (remembered (set states i n) j)) (get_other issued i j x ne)
    ∙ ap (λ (u : Option Condition). leaf_state kind (cells_at own j) (cells_at issued j) (elim u [ None ↦ c.State 0 | Some m ↦ m ])) (get_other states i j n ne)

-- a leaf comes to other values and another state
pub store_set : (all : List Leaf) (own issued : List (List Cell)) (states : List Condition) (i : ℕ) (leaf : Leaf) (o x o' x' : List Cell) (n n' : Condition) → AreApart all → slice_get all i ≡ Some leaf
    → slice_get own i ≡ Some o → slice_get issued i ≡ Some x → slice_get states i ≡ Some n
    → store_from 0 all (standing (set own i o') (set issued i x') (set states i n')) ≡ with_leaf (store_from 0 all (standing own issued states)) leaf.path (leaf_state leaf.kind o' x' n')
store_set all own issued states i leaf o x o' x' n n' a h ow is st =
    let zero_on : 0 + i ≡ i = omega arith in
    let here : standing (set own i o') (set issued i x') (set states i n') (0 + i) leaf.kind ≡ leaf_state leaf.kind o' x' n' =
    ap (λ m. standing (set own i o') (set issued i x') (set states i n') m leaf.kind) zero_on
    ∙ standing_at (set own i o') (set issued i x') (set states i n') i leaf.kind o' x' n' (set_stands own i o o' ow) (set_stands issued i x x' is) (set_stands states i n n' st) in
    fun_ext (λ p. changed_at 0 all (standing own issued states) (standing (set own i o') (set issued i x') (set states i n')) i leaf a h (λ j kind ne. standing_other own issued states i o' x' n' j kind (λ same. ne (omega (arith, same)))) p
    ∙ ap (λ s. with_leaf (store_from 0 all (standing own issued states)) leaf.path s p) here)

-- the state of the leaf of a number
pub stored_at : (all : List Leaf) (own issued : List (List Cell)) (states : List Condition) (i : ℕ) (leaf : Leaf) (o x : List Cell) (n : Condition) → AreApart all → slice_get all i ≡ Some leaf → slice_get own i ≡ Some o → slice_get issued i ≡ Some x → slice_get states i ≡ Some n
    → store_from 0 all (standing own issued states) leaf.path ≡ leaf_state leaf.kind o x n
stored_at all own issued states i leaf o x n a h ow is st =
    let zero_on : 0 + i ≡ i = omega arith in
    stored 0 all (standing own issued states) i leaf a h ∙ ap (λ m. standing own issued states m leaf.kind) zero_on ∙ standing_at own issued states i leaf.kind o x n ow is st
