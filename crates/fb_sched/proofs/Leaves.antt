-- The timers that are due are those of the book's due leaves, in the same order.
use Rattle.std.proofs.Common.{◌≡◌, ℕ, zero, suc, ◌+◌, ◌<◌, ◌≤◌, ◌⊎◌, inl, inr, Bool, true, false, ◌&&◌, List, [], ◌∷◌, Option, None, Some, refl, sym, ap, subst, ◌∙◌, arith}
use Rattle.std.specs.Prelude.{◌≢◌, nat_le, if◌then◌else◌, slice_get}
use Rattle.std.specs.List.{AllByRecursion}
use Rattle.std.proofs.lemmas.Bool.Decides.{leb_tells}
use Rattle.fb_model.specs.Wires.{Leaf}
use Rattle.fb_model.specs.Store.{Store}
use Rattle.fb_model.specs.Devices.{due, is_timer, is_due, is_before, inserted, due_timers}
use Rattle.fb_sched.specs.declared.armed.Armed.{Armed}
use Rattle.fb_sched.specs.Order.{is_ahead, IsOrdered, AreApart, placed, due_of, due_at}
use Rattle.fb_sched.specs.Expiry.{moment_of, AreArmed, in_front, leaves_at, leaf_of}
use Rattle.fb_sched.proofs.Ahead.{IsBefore, ahead_tells}
use Rattle.fb_sched.proofs.Ordered.{ordered_placed, apart_placed, due_placed}
use Rattle.fb_sched.proofs.Told.{equal_yes, equal_no, up_to, told_settles, told_due, ordered_due, apart_due}

-- ---- the book's due timers, numbered

-- the timer of a block of a number, put in its position where it is due
abbrev pub put_due : ℕ → ℕ → Option ℕ → List Armed → List Armed
put_due clock n None l = l
put_due clock n (Some d) l = if nat_le d clock then placed (record { due = d; block = n }) l else l

-- the due timers of leaves that are numbered from n on
abbrev pub numbered : Store → ℕ → ℕ → List Leaf → List Armed
numbered store clock n [] = []
numbered store clock n (leaf ∷ rest) = put_due clock n (moment_of store (Some leaf)) (numbered store clock (n + 1) rest)

-- what is told of a block once its timer is put in
told_put : (clock n : ℕ) (m : Option ℕ) (l : List Armed) → due_of l n ≡ None → due_of (put_due clock n m l) n ≡ up_to clock m
told_put clock n None l q = q
told_put clock n (Some d) l q = by (nat_le d clock) where
  by : (b : Bool) → due_of (if b then placed (record { due = d; block = n }) l else l) n ≡ (if b then Some d else None)
  by true = due_placed (record { due = d; block = n }) l n q ∙ ap (λ c. if c then Some d else due_of l n) (equal_yes n n refl)
  by false = q

-- and of the other blocks
told_others : (clock n : ℕ) (m : Option ℕ) (l : List Armed) (k : ℕ) → n ≢ k → due_of l n ≡ None → due_of (put_due clock n m l) k ≡ due_of l k
told_others clock n None l k f q = refl
told_others clock n (Some d) l k f q = by (nat_le d clock) where
  by : (b : Bool) → due_of (if b then placed (record { due = d; block = n }) l else l) k ≡ due_of l k
  by true = due_placed (record { due = d; block = n }) l k q ∙ ap (λ c. if c then Some d else due_of l k) (equal_no n k f)
  by false = refl

-- none is armed of a number below the first
none_below : (store : Store) (clock n : ℕ) (rest : List Leaf) (k : ℕ) → k < n → due_of (numbered store clock n rest) k ≡ None
none_below store clock n [] k h = refl
none_below store clock n (leaf ∷ rest) k h =
    told_others clock n (moment_of store (Some leaf)) (numbered store clock (n + 1) rest) k (λ e. omega (arith, e, h)) (none_below store clock (n + 1) rest n (omega arith)) ∙ none_below store clock (n + 1) rest k (omega (arith, h))

-- of each number they tell the moment of its leaf, up to the clock
told_numbered : (store : Store) (clock n : ℕ) (rest : List Leaf) (k : ℕ) → due_of (numbered store clock n rest) (n + k) ≡ up_to clock (moment_of store (slice_get rest k))
told_numbered store clock n [] k = refl
told_numbered store clock n (leaf ∷ rest) zero =
    let m = moment_of store (Some leaf) in
    let l = numbered store clock (n + 1) rest in
    let here : n ≡ n + 0 = omega arith in
    subst (λ j. due_of (put_due clock n m l) j ≡ up_to clock m) here (told_put clock n m l (none_below store clock (n + 1) rest n (omega arith)))
told_numbered store clock n (leaf ∷ rest) (suc k) =
    let m = moment_of store (Some leaf) in
    let l = numbered store clock (n + 1) rest in
    let past : n + 1 + k ≡ n + suc k = omega arith in
    told_others clock n m l (n + suc k) (λ e. omega (arith, e)) (none_below store clock (n + 1) rest n (omega arith))
    ∙ subst (λ j. due_of l j ≡ up_to clock (moment_of store (slice_get rest k))) past (told_numbered store clock (n + 1) rest k)

-- they are in order, and of each block one
put_stays : (clock n : ℕ) (m : Option ℕ) (l : List Armed) → due_of l n ≡ None → IsOrdered l × AreApart l → IsOrdered (put_due clock n m l) × AreApart (put_due clock n m l)
put_stays clock n None l q h = h
put_stays clock n (Some d) l q h = by (nat_le d clock) where
  by : (b : Bool) → IsOrdered (if b then placed (record { due = d; block = n }) l else l) × AreApart (if b then placed (record { due = d; block = n }) l else l)
  by true = (ordered_placed (record { due = d; block = n }) l h.0 q, apart_placed (record { due = d; block = n }) l h.1 q)
  by false = h

numbered_stays : (store : Store) (clock n : ℕ) (rest : List Leaf) → IsOrdered (numbered store clock n rest) × AreApart (numbered store clock n rest)
numbered_stays store clock n [] = (tt, tt)
numbered_stays store clock n (leaf ∷ rest) =
    put_stays clock n (moment_of store (Some leaf)) (numbered store clock (n + 1) rest) (none_below store clock (n + 1) rest n (omega arith)) (numbered_stays store clock (n + 1) rest)

-- ---- their leaves

-- a timer is that of a leaf of a number from n on
record Stands (store : Store) (all : List Leaf) (n : ℕ) (a : Armed) : Type 0 where
  behind : n ≤ a.block
  leaf : Leaf
  at : slice_get all a.block ≡ Some leaf
  moment : due (store leaf.path).condition ≡ Some a.due

-- what holds of a timer and of all others holds of all with it
all_placed : (P : Armed → Type 0) (x : Armed) (l : List Armed) → P x → AllByRecursion P l → AllByRecursion P (placed x l)
all_placed P x [] h all = (h, tt)
all_placed P x (a ∷ l) h all = by (is_ahead x a) (all_placed P x l h all.1) where
  by : (b : Bool) → AllByRecursion P (placed x l) → AllByRecursion P (if b then x ∷ a ∷ l else a ∷ placed x l)
  by true again = (h, (all.0, all.1))
  by false again = (all.0, again)

-- those behind a number are from that number on
all_behind : (store : Store) (all : List Leaf) (n : ℕ) (l : List Armed) → AllByRecursion (Stands store all (n + 1)) l → AllByRecursion (Stands store all n) l
all_behind store all n [] h = tt
all_behind store all n (a ∷ l) h = (record { behind = omega (arith, h.0.behind); leaf = h.0.leaf; at = h.0.at; moment = h.0.moment }, all_behind store all n l h.1)

-- the timer of a leaf is put in among such timers
put_stands : (store : Store) (all : List Leaf) (clock n : ℕ) (leaf : Leaf) (t : Bool) (m : Option ℕ) (l : List Armed) → slice_get all n ≡ Some leaf → due (store leaf.path).condition ≡ m
    → AllByRecursion (Stands store all n) l → AllByRecursion (Stands store all n) (put_due clock n (if t then m else None) l)
put_stands store all clock n leaf false m l at e h = h
put_stands store all clock n leaf true None l at e h = h
put_stands store all clock n leaf true (Some d) l at e h = by (nat_le d clock) where
  by : (b : Bool) → AllByRecursion (Stands store all n) (if b then placed (record { due = d; block = n }) l else l)
  by true = all_placed (Stands store all n) (record { due = d; block = n }) l (record { behind = omega arith; leaf = leaf; at = at; moment = e }) h
  by false = h

-- the leaves from n on are the rest
abbrev AreFrom : List Leaf → ℕ → List Leaf → Type 0
AreFrom all n rest = (k : ℕ) → slice_get all (n + k) ≡ slice_get rest k

-- the first of them, and those behind it
from_first : (all : List Leaf) (n : ℕ) (leaf : Leaf) (rest : List Leaf) → AreFrom all n (leaf ∷ rest) → slice_get all n ≡ Some leaf
from_first all n leaf rest f = let e : n + 0 ≡ n = omega arith in subst (λ j. slice_get all j ≡ Some leaf) e (f 0)

from_rest : (all : List Leaf) (n : ℕ) (leaf : Leaf) (rest : List Leaf) → AreFrom all n (leaf ∷ rest) → AreFrom all (n + 1) rest
from_rest all n leaf rest f k = let e : n + suc k ≡ n + 1 + k = omega arith in subst (λ j. slice_get all j ≡ slice_get rest k) e (f (suc k))

-- each of the numbered timers is that of a leaf
numbered_stand : (store : Store) (all : List Leaf) (clock n : ℕ) (rest : List Leaf) → AreFrom all n rest → AllByRecursion (Stands store all n) (numbered store clock n rest)
numbered_stand store all clock n [] f = tt
numbered_stand store all clock n (leaf ∷ rest) f =
    put_stands store all clock n leaf (is_timer leaf.kind) (due (store leaf.path).condition) (numbered store clock (n + 1) rest) (from_first all n leaf rest f) refl
    (all_behind store all n (numbered store clock (n + 1) rest) (numbered_stand store all clock (n + 1) rest (from_rest all n leaf rest f)))

-- of a block before, a timer is ahead where it is due no later
ahead_first : (x a : Armed) → x.block < a.block → is_ahead x a ≡ nat_le x.due a.due
ahead_first x a h = by (leb_tells x.due a.due) (ahead_tells x a) where
  before : x.due ≤ a.due → IsBefore x a
  before l = early (leb_tells (x.due + 1) a.due) where
    early : {b : Bool} → ((b ≡ true) × (x.due + 1 ≤ a.due)) ⊎ ((b ≡ false) × (a.due < x.due + 1)) → IsBefore x a
    early (inl p) = inl (omega (arith, p.1))
    early (inr p) = inr (omega (arith, p.1, l), h)

  not_late : a.due < x.due → IsBefore x a → ⊥
  not_late l (inl p) = omega (arith, l, p)
  not_late l (inr p) = omega (arith, l, p.0)

  by : ((nat_le x.due a.due ≡ true) × (x.due ≤ a.due)) ⊎ ((nat_le x.due a.due ≡ false) × (a.due < x.due)) → ((is_ahead x a ≡ true) × IsBefore x a) ⊎ ((is_ahead x a ≡ false) × (IsBefore x a → ⊥)) → is_ahead x a ≡ nat_le x.due a.due
  by (inl p) (inl q) = q.0 ∙ sym p.0
  by (inl p) (inr q) = absurd (q.1 (before p.1))
  by (inr p) (inl q) = absurd (not_late p.1 q.1)
  by (inr p) (inr q) = q.0 ∙ sym p.0

-- the book's test of two leaves, by their moments
before_moments : (c d : Option ℕ) (x y : ℕ) → c ≡ Some x → d ≡ Some y → is_before c d ≡ nat_le x y
before_moments c d x y p q = ap (λ e. is_before e d) p ∙ ap (is_before (Some x)) q

-- a timer in its position is its leaf inserted
leaves_placed : (store : Store) (all : List Leaf) (x : Armed) (leaf : Leaf) (l : List Armed) → slice_get all x.block ≡ Some leaf → due (store leaf.path).condition ≡ Some x.due
    → AllByRecursion (Stands store all (x.block + 1)) l → leaves_at all (placed x l) ≡ inserted store leaf (leaves_at all l)
leaves_placed store all x leaf [] at e h = ap (λ o. in_front o []) at
leaves_placed store all x leaf (a ∷ l) at e h =
    let s = h.0 in
    let front : in_front (slice_get all a.block) (leaves_at all l) ≡ s.leaf ∷ leaves_at all l = ap (λ o. in_front o (leaves_at all l)) s.at in
    let tests : is_ahead x a ≡ is_before (due (store leaf.path).condition) (due (store s.leaf.path).condition) =
    ahead_first x a (omega (arith, s.behind)) ∙ sym (before_moments (due (store leaf.path).condition) (due (store s.leaf.path).condition) x.due a.due e s.moment) in
    by s.leaf s.at (is_ahead x a) tests (leaves_placed store all x leaf l at e h.1) ∙ sym (ap (inserted store leaf) front) where
      by : (y : Leaf) → slice_get all a.block ≡ Some y → (b : Bool) → b ≡ is_before (due (store leaf.path).condition) (due (store y.path).condition) → leaves_at all (placed x l) ≡ inserted store leaf (leaves_at all l)
          → leaves_at all (if b then x ∷ a ∷ l else a ∷ placed x l) ≡ inserted store leaf (y ∷ leaves_at all l)
      by y f true t again =
          ap (λ o. in_front o (in_front (slice_get all a.block) (leaves_at all l))) at ∙ ap (λ o. leaf ∷ in_front o (leaves_at all l)) f
          ∙ ap (λ b. if b then leaf ∷ y ∷ leaves_at all l else y ∷ inserted store leaf (leaves_at all l)) t
      by y f false t again =
          ap (λ o. in_front o (leaves_at all (placed x l))) f ∙ ap (λ r. y ∷ r) again
          ∙ ap (λ b. if b then leaf ∷ y ∷ leaves_at all l else y ∷ inserted store leaf (leaves_at all l)) t

-- the same where it is put in only if it is due
leaves_put : (store : Store) (all : List Leaf) (clock n : ℕ) (leaf : Leaf) (t : Bool) (m : Option ℕ) (l : List Armed) (r : List Leaf) → slice_get all n ≡ Some leaf → due (store leaf.path).condition ≡ m
    → AllByRecursion (Stands store all (n + 1)) l → leaves_at all l ≡ r → leaves_at all (put_due clock n (if t then m else None) l) ≡ (if t && is_due clock m then inserted store leaf r else r)
leaves_put store all clock n leaf false m l r at e h again = again
leaves_put store all clock n leaf true None l r at e h again = again
leaves_put store all clock n leaf true (Some d) l r at e h again = by (nat_le d clock) where
  by : (b : Bool) → leaves_at all (if b then placed (record { due = d; block = n }) l else l) ≡ (if b then inserted store leaf r else r)
  by true = leaves_placed store all (record { due = d; block = n }) leaf l at e h ∙ ap (inserted store leaf) again
  by false = again

-- the leaves of the numbered timers are the book's
leaves_numbered : (store : Store) (all : List Leaf) (clock n : ℕ) (rest : List Leaf) → AreFrom all n rest → leaves_at all (numbered store clock n rest) ≡ due_timers store clock rest
leaves_numbered store all clock n [] f = refl
leaves_numbered store all clock n (leaf ∷ rest) f =
    let g = from_rest all n leaf rest f in
    leaves_put store all clock n leaf (is_timer leaf.kind) (due (store leaf.path).condition) (numbered store clock (n + 1) rest) (due_timers store clock rest) (from_first all n leaf rest f) refl
    (numbered_stand store all clock (n + 1) rest g) (leaves_numbered store all clock (n + 1) rest g)

-- ---- the law

-- the numbered timers are those of the armed ones that are due
numbered_is_due : (store : Store) (all : List Leaf) (armed : List Armed) (clock : ℕ) → IsOrdered armed → AreApart armed → AreArmed store all armed → due_at clock armed ≡ numbered store clock 0 all
numbered_is_due store all armed clock o p h =
    told_settles (due_at clock armed) (numbered store clock 0 all) (ordered_due clock armed o) (numbered_stays store clock 0 all).0 (apart_due clock armed o p) (numbered_stays store clock 0 all).1
    (λ k. told_due clock armed k o ∙ ap (up_to clock) (h k) ∙ sym (by k)) where
      by : (k : ℕ) → due_of (numbered store clock 0 all) k ≡ up_to clock (moment_of store (slice_get all k))
      by k = let e : 0 + k ≡ k = omega arith in subst (λ j. due_of (numbered store clock 0 all) j ≡ up_to clock (moment_of store (slice_get all k))) e (told_numbered store clock 0 all k)

from_start : (all : List Leaf) → AreFrom all 0 all
from_start all k = let e : k ≡ 0 + k = omega arith in subst (λ j. slice_get all j ≡ slice_get all k) e refl

-- the leaves of the timers that are due are the book's
pub due_leaves : (store : Store) (all : List Leaf) (armed : List Armed) (clock : ℕ) → IsOrdered armed → AreApart armed → AreArmed store all armed → due_timers store clock all ≡ leaves_at all (due_at clock armed)
due_leaves store all armed clock o p h =
    sym (leaves_numbered store all clock 0 all (from_start all)) ∙ ap (leaves_at all) (sym (numbered_is_due store all armed clock o p h))

-- each timer has its leaf, so an index stays the same
leaf_at_index : (store : Store) (all : List Leaf) (n : ℕ) (l : List Armed) (i : ℕ) → AllByRecursion (Stands store all n) l → slice_get (leaves_at all l) i ≡ leaf_of all (slice_get l i)
leaf_at_index store all n [] i h = refl
leaf_at_index store all n (a ∷ l) zero h = ap (λ o. slice_get (in_front o (leaves_at all l)) 0) h.0.at ∙ sym h.0.at
leaf_at_index store all n (a ∷ l) (suc i) h = ap (λ o. slice_get (in_front o (leaves_at all l)) (suc i)) h.0.at ∙ leaf_at_index store all n l i h.1

-- and so is the one of each index
pub due_leaf : (store : Store) (all : List Leaf) (armed : List Armed) (clock i : ℕ) → IsOrdered armed → AreApart armed → AreArmed store all armed → slice_get (due_timers store clock all) i ≡ leaf_of all (slice_get (due_at clock armed) i)
due_leaf store all armed clock i o p h =
    ap (λ (ls : List Leaf). slice_get ls i) (sym (leaves_numbered store all clock 0 all (from_start all)))
    ∙ leaf_at_index store all 0 (numbered store clock 0 all) i (numbered_stand store all clock 0 all (from_start all))
    ∙ ap (λ (l : List Armed). leaf_of all (slice_get l i)) (sym (numbered_is_due store all armed clock o p h))
