-- Timers stay in order, and of each block one.
use Rattle.std.proofs.Common.{◌≡◌, ℕ, zero, suc, ◌<◌, ◌≤◌, ◌⊎◌, inl, inr, Bool, true, false, List, [], ◌∷◌, None, Some, refl, sym, ap, subst, ◌∙◌, arith}
use Rattle.std.specs.Prelude.{◌==◌, ◌≢◌, nat_le, if◌then◌else◌, slice_get}
use Rattle.std.specs.List.{AllByRecursion}
use Rattle.std.proofs.lemmas.Bool.Decides.{leb_tells, eqb_tells}
use Rattle.fb_sched.specs.declared.armed.Armed.{Armed}
use Rattle.fb_sched.specs.Order.{is_ahead, IsOrdered, AreApart, placed, without, due_of, due_at, if_due}
use Rattle.fb_sched.proofs.Ahead.{ahead_on, ahead_else, ahead_before, IsBefore}

-- the block of another timer is another
pub other_block : (a x : Armed) (l : List Armed) → due_of (a ∷ l) x.block ≡ None → (a.block == x.block) ≡ false
other_block a x l h = by (a.block == x.block) h where
  by : (b : Bool) → (if b then Some a.due else due_of l x.block) ≡ None → b ≡ false
  by true g = absurd (cc)
  by false g = refl

pub other_rest : (a x : Armed) (l : List Armed) → due_of (a ∷ l) x.block ≡ None → due_of l x.block ≡ None
other_rest a x l h = by (a.block == x.block) h where
  by : (b : Bool) → (if b then Some a.due else due_of l x.block) ≡ None → due_of l x.block ≡ None
  by true g = absurd (cc)
  by false g = g

pub differ : (m n : ℕ) → (m == n) ≡ false → n ≢ m
differ m n f e = by (eqb_tells m n) where
  by : (((m == n) ≡ true) × (m ≡ n)) ⊎ (((m == n) ≡ false) × (m ≢ n)) → ⊥
  by (inl p) = absurd (cc)
  by (inr p) = p.1 (sym e)

all_on : (x a : Armed) (l : List Armed) → is_ahead x a ≡ true → AllByRecursion (λ (b : Armed). is_ahead a b ≡ true) l → AllByRecursion (λ (b : Armed). is_ahead x b ≡ true) l
all_on x a [] h all = tt
all_on x a (b ∷ bs) h all = (ahead_on x a b h all.0, all_on x a bs h all.1)

all_placed : (a x : Armed) (l : List Armed) → is_ahead a x ≡ true → AllByRecursion (λ (b : Armed). is_ahead a b ≡ true) l → AllByRecursion (λ (b : Armed). is_ahead a b ≡ true) (placed x l)
all_placed a x [] h all = (h, tt)
all_placed a x (b ∷ bs) h all = by (is_ahead x b) (all_placed a x bs h all.1) where
  by : (c : Bool) → AllByRecursion (λ (b : Armed). is_ahead a b ≡ true) (placed x bs) → AllByRecursion (λ (b : Armed). is_ahead a b ≡ true) (if c then x ∷ b ∷ bs else b ∷ placed x bs)
  by true again = (h, (all.0, all.1))
  by false again = (all.0, again)

pub ordered_placed : (x : Armed) (l : List Armed) → IsOrdered l → due_of l x.block ≡ None → IsOrdered (placed x l)
ordered_placed x [] o n = (tt, tt)
ordered_placed x (a ∷ l) o n = by (is_ahead x a) refl (ordered_placed x l o.1 (other_rest a x l n)) where
  by : (c : Bool) → is_ahead x a ≡ c → IsOrdered (placed x l) → IsOrdered (if c then x ∷ a ∷ l else a ∷ placed x l)
  by true h again = ((h, all_on x a l h o.0), (o.0, o.1))
  by false h again = (all_placed a x l (ahead_else x a h (differ a.block x.block (other_block a x l n))) o.0, again)

-- what is armed of a block, with one timer more
pub due_placed : (x : Armed) (l : List Armed) (k : ℕ) → due_of l x.block ≡ None → due_of (placed x l) k ≡ (if x.block == k then Some x.due else due_of l k)
due_placed x [] k n = refl
due_placed x (a ∷ l) k n = by (is_ahead x a) (due_placed x l k (other_rest a x l n)) where
  swap : (p q : Bool) → (q ≡ true → p ≡ false) → (if p then Some a.due else (if q then Some x.due else due_of l k)) ≡ (if q then Some x.due else (if p then Some a.due else due_of l k))
  swap true true f = let g = f refl in absurd (cc)
  swap true false f = refl
  swap false q f = refl

  apart : (x.block == k) ≡ true → (a.block == k) ≡ false
  apart t = by2 (eqb_tells x.block k) where
    by2 : (((x.block == k) ≡ true) × (x.block ≡ k)) ⊎ (((x.block == k) ≡ false) × (x.block ≢ k)) → (a.block == k) ≡ false
    by2 (inl p) = subst (λ m. (a.block == m) ≡ false) p.1 (other_block a x l n)
    by2 (inr p) = absurd (cc)

  by : (c : Bool) → due_of (placed x l) k ≡ (if x.block == k then Some x.due else due_of l k) → due_of (if c then x ∷ a ∷ l else a ∷ placed x l) k ≡ (if x.block == k then Some x.due else due_of (a ∷ l) k)
  by true again = refl
  by false again = ap (λ r. if a.block == k then Some a.due else r) again ∙ swap (a.block == k) (x.block == k) apart

pub apart_placed : (x : Armed) (l : List Armed) → AreApart l → due_of l x.block ≡ None → AreApart (placed x l)
apart_placed x [] p n = (refl, tt)
apart_placed x (a ∷ l) p n = by (is_ahead x a) (apart_placed x l p.1 (other_rest a x l n)) where
  flip : (b : Bool) → (x.block == a.block) ≡ b → b ≡ false
  flip true e = by3 (eqb_tells x.block a.block) where
    by3 : (((x.block == a.block) ≡ true) × (x.block ≡ a.block)) ⊎ (((x.block == a.block) ≡ false) × (x.block ≢ a.block)) → true ≡ false
    by3 (inl q) = absurd (differ a.block x.block (other_block a x l n) q.1)
    by3 (inr q) = absurd (cc)
  flip false e = refl

  by : (c : Bool) → AreApart (placed x l) → AreApart (if c then x ∷ a ∷ l else a ∷ placed x l)
  by true again = (n, (p.0, p.1))
  by false again = (due_placed x l a.block (other_rest a x l n) ∙ ap (λ b. if b then Some x.due else due_of l a.block) (flip (x.block == a.block) refl) ∙ p.0, again)

-- ---- one timer less

all_without : (P : Armed → Type 0) (l : List Armed) (k : ℕ) → AllByRecursion P l → AllByRecursion P (without l k)
all_without P [] k all = tt
all_without P (a ∷ l) k all = by (a.block == k) (all_without P l k all.1) where
  by : (c : Bool) → AllByRecursion P (without l k) → AllByRecursion P (if c then l else a ∷ without l k)
  by true again = all.1
  by false again = (all.0, again)

pub ordered_without : (l : List Armed) (k : ℕ) → IsOrdered l → IsOrdered (without l k)
ordered_without [] k o = tt
ordered_without (a ∷ l) k o = by (a.block == k) (ordered_without l k o.1) where
  by : (c : Bool) → IsOrdered (without l k) → IsOrdered (if c then l else a ∷ without l k)
  by true again = o.1
  by false again = (all_without (λ (b : Armed). is_ahead a b ≡ true) l k o.0, again)

due_without : (l : List Armed) (k j : ℕ) → due_of l j ≡ None → due_of (without l k) j ≡ None
due_without [] k j n = refl
due_without (a ∷ l) k j n = by (a.block == k) (a.block == j) n (due_without l k j) where
  by : (c d : Bool) → (if d then Some a.due else due_of l j) ≡ None → (due_of l j ≡ None → due_of (without l k) j ≡ None) → due_of (if c then l else a ∷ without l k) j ≡ None
  by c true m again = absurd (cc)
  by true false m again = m
  by false false m again = by4 (a.block == j) n where
    by4 : (e : Bool) → (if e then Some a.due else due_of l j) ≡ None → (if e then Some a.due else due_of (without l k) j) ≡ None
    by4 true g = absurd (cc)
    by4 false g = again g

pub apart_without : (l : List Armed) (k : ℕ) → AreApart l → AreApart (without l k)
apart_without [] k p = tt
apart_without (a ∷ l) k p = by (a.block == k) (apart_without l k p.1) where
  by : (c : Bool) → AreApart (without l k) → AreApart (if c then l else a ∷ without l k)
  by true again = p.1
  by false again = (due_without l k a.block p.0, again)

-- ---- those that are due

-- behind a timer that is not due none is
pub late : (clock : ℕ) (a : Armed) (l : List Armed) → nat_le a.due clock ≡ false → AllByRecursion (λ (b : Armed). is_ahead a b ≡ true) l → AllByRecursion (λ (b : Armed). nat_le b.due clock ≡ false) l
late clock a [] f all = tt
late clock a (b ∷ bs) f all = (by (leb_tells a.due clock) (leb_tells b.due clock) (ahead_before a b all.0), late clock a bs f all.1) where
  by : ((nat_le a.due clock ≡ true) × (a.due ≤ clock)) ⊎ ((nat_le a.due clock ≡ false) × (clock < a.due)) → ((nat_le b.due clock ≡ true) × (b.due ≤ clock)) ⊎ ((nat_le b.due clock ≡ false) × (clock < b.due)) → IsBefore a b → nat_le b.due clock ≡ false
  by (inl p) q r = absurd (cc)
  by (inr p) (inr q) r = q.0
  by (inr p) (inl q) (inl r) = absurd (omega (arith, p.1, q.1, r))
  by (inr p) (inl q) (inr r) = absurd (omega (arith, p.1, q.1, r.0))

none_due : (clock : ℕ) (l : List Armed) (i : ℕ) → AllByRecursion (λ (b : Armed). nat_le b.due clock ≡ false) l → if_due clock (slice_get l i) ≡ None
none_due clock [] i all = refl
none_due clock (a ∷ l) zero all = ap (λ b. if b then Some a else None) all.0
none_due clock (a ∷ l) (suc i) all = none_due clock l i all.1

pub due_get : (clock : ℕ) (l : List Armed) (i : ℕ) → IsOrdered l → slice_get (due_at clock l) i ≡ if_due clock (slice_get l i)
due_get clock [] i o = refl
due_get clock (a ∷ l) i o = by (nat_le a.due clock) refl i (λ j. due_get clock l j o.1) where
  by : (b : Bool) → nat_le a.due clock ≡ b → (j : ℕ) → ((j : ℕ) → slice_get (due_at clock l) j ≡ if_due clock (slice_get l j)) → slice_get (if b then a ∷ due_at clock l else []) j ≡ if_due clock (slice_get (a ∷ l) j)
  by true h zero again = sym (ap (λ b. if b then Some a else None) h)
  by true h (suc j) again = again j
  by false h zero again = sym (ap (λ b. if b then Some a else None) h)
  by false h (suc j) again = sym (none_due clock l j (late clock a l h o.0))

pub due_yes : (clock : ℕ) (a : Armed) → a.due ≤ clock → if_due clock (Some a) ≡ Some a
due_yes clock a h = by (leb_tells a.due clock) where
  by : ((nat_le a.due clock ≡ true) × (a.due ≤ clock)) ⊎ ((nat_le a.due clock ≡ false) × (clock < a.due)) → (if nat_le a.due clock then Some a else None) ≡ Some a
  by (inl p) = ap (λ b. if b then Some a else None) p.0
  by (inr p) = absurd (omega (arith, p.1, h))

pub due_no : (clock : ℕ) (a : Armed) → clock < a.due → if_due clock (Some a) ≡ None
due_no clock a h = by (leb_tells a.due clock) where
  by : ((nat_le a.due clock ≡ true) × (a.due ≤ clock)) ⊎ ((nat_le a.due clock ≡ false) × (clock < a.due)) → (if nat_le a.due clock then Some a else None) ≡ None
  by (inl p) = absurd (omega (arith, p.1, h))
  by (inr p) = ap (λ b. if b then Some a else None) p.0
