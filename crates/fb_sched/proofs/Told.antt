-- What timers tell of each block settles them, and what they tell once some are disarmed or not yet due.
use Rattle.std.proofs.Common.{◌≡◌, ℕ, ◌⊎◌, inl, inr, Bool, true, false, List, [], ◌∷◌, Option, None, Some, refl, sym, ap, subst, ◌∙◌, arith}
use Rattle.std.specs.Prelude.{◌==◌, ◌≢◌, nat_le, if◌then◌else◌}
use Rattle.std.specs.List.{AllByRecursion}
use Rattle.std.proofs.lemmas.Bool.Decides.{eqb_tells}
use Rattle.fb_sched.specs.declared.armed.Armed.{Armed}
use Rattle.fb_sched.specs.Order.{is_ahead, IsOrdered, AreApart, without, due_of, due_at}
use Rattle.fb_sched.proofs.Ahead.{ahead_before, IsBefore}
use Rattle.fb_sched.proofs.Ordered.{late}

-- the test of two numbers, and what it tells
pub equal_tells : (m n : ℕ) → ((m == n) ≡ true) ⊎ ((m == n) ≡ false)
equal_tells m n = by (eqb_tells m n) where
  by : (((m == n) ≡ true) × (m ≡ n)) ⊎ (((m == n) ≡ false) × (m ≢ n)) → ((m == n) ≡ true) ⊎ ((m == n) ≡ false)
  by (inl p) = inl p.0
  by (inr p) = inr p.0

pub equal_is : (m n : ℕ) → (m == n) ≡ true → m ≡ n
equal_is m n t = by (eqb_tells m n) where
  by : (((m == n) ≡ true) × (m ≡ n)) ⊎ (((m == n) ≡ false) × (m ≢ n)) → m ≡ n
  by (inl p) = p.1
  by (inr p) = absurd (cc)

pub equal_yes : (m n : ℕ) → m ≡ n → (m == n) ≡ true
equal_yes m n e = by (eqb_tells m n) where
  by : (((m == n) ≡ true) × (m ≡ n)) ⊎ (((m == n) ≡ false) × (m ≢ n)) → (m == n) ≡ true
  by (inl p) = p.0
  by (inr p) = absurd (p.1 e)

pub equal_no : (m n : ℕ) → m ≢ n → (m == n) ≡ false
equal_no m n d = by (eqb_tells m n) where
  by : (((m == n) ≡ true) × (m ≡ n)) ⊎ (((m == n) ≡ false) × (m ≢ n)) → (m == n) ≡ false
  by (inl p) = absurd (d p.1)
  by (inr p) = p.0

-- ---- one timer less

-- what is armed of a block, without the timer of one
pub due_cleared : (l : List Armed) (k j : ℕ) → AreApart l → due_of (without l k) j ≡ (if k == j then None else due_of l j)
due_cleared [] k j p = by (k == j) where
  by : (b : Bool) → due_of [] j ≡ (if b then None else due_of [] j)
  by true = refl
  by false = refl
due_cleared (a ∷ l) k j p = by (eqb_tells a.block k) (due_cleared l k j p.1) where
  here : (b : Bool) → (b ≡ true → due_of l j ≡ None) → due_of l j ≡ (if b then None else (if b then Some a.due else due_of l j))
  here true f = f refl
  here false f = refl

  past : (b c : Bool) → (b ≡ true → c ≡ false) → due_of (without l k) j ≡ (if c then None else due_of l j) → (if b then Some a.due else due_of (without l k) j) ≡ (if c then None else (if b then Some a.due else due_of l j))
  past true true f again = let g = f refl in absurd (cc)
  past true false f again = refl
  past false true f again = again
  past false false f again = again

  by : (((a.block == k) ≡ true) × (a.block ≡ k)) ⊎ (((a.block == k) ≡ false) × (a.block ≢ k)) → due_of (without l k) j ≡ (if k == j then None else due_of l j)
      → due_of (if a.block == k then l else a ∷ without l k) j ≡ (if k == j then None else due_of (a ∷ l) j)
  by (inl q) again =
      rw q.0 (subst (λ m. due_of l j ≡ (if m == j then None else (if a.block == j then Some a.due else due_of l j))) q.1
      (here (a.block == j) (λ t. subst (λ m. due_of l m ≡ None) (equal_is a.block j t) p.0)))
  by (inr q) again =
      rw q.0 (past (a.block == j) (k == j) (λ t. equal_no k j (λ e. q.1 (equal_is a.block j t ∙ sym e))) again)

-- ---- timers that tell the same

-- a timer is its moment and its block
pub same_timer : (a b : Armed) → a.due ≡ b.due → a.block ≡ b.block → a ≡ b
same_timer a b d k = subst (λ m. a ≡ record { due = m; block = b.block }) d (subst (λ n. a ≡ record { due = a.due; block = n }) k refl)

-- what holds of all holds of the timer of a block
pub all_told : (P : Armed → Type 0) (l : List Armed) (k d : ℕ) → AllByRecursion P l → due_of l k ≡ Some d → P (record { due = d; block = k })
all_told P [] k d all h = absurd (cc)
all_told P (a ∷ l) k d all h = by (equal_tells a.block k) (λ g. all_told P l k d all.1 g) where
  by : ((a.block == k) ≡ true) ⊎ ((a.block == k) ≡ false) → (due_of l k ≡ Some d → P (record { due = d; block = k })) → P (record { due = d; block = k })
  by (inl t) again =
      let s : Some a.due ≡ Some d = sym (ap (λ b. if b then Some a.due else due_of l k) t) ∙ h in
      let e : a.due ≡ d = cc in
      let n : a.block ≡ k = equal_is a.block k t in
      let is : a ≡ record { due = d; block = k } = same_timer a (record { due = d; block = k }) e n in
      subst P is all.0
  by (inr f) again = again (sym (ap (λ b. if b then Some a.due else due_of l k) f) ∙ h)

-- the first tells its own
told_first : (a : Armed) (l : List Armed) → due_of (a ∷ l) a.block ≡ Some a.due
told_first a l = ap (λ b. if b then Some a.due else due_of l a.block) (equal_yes a.block a.block refl)

-- and of other blocks the rest tells
told_rest : (a : Armed) (l : List Armed) (k : ℕ) → (a.block == k) ≡ false → due_of (a ∷ l) k ≡ due_of l k
told_rest a l k f = ap (λ b. if b then Some a.due else due_of l k) f

-- of two lists that tell the same of one block, the first timer of one is that of the other or comes behind it
first_or : (a b : Armed) (m : List Armed) → IsOrdered (b ∷ m) → due_of (b ∷ m) a.block ≡ Some a.due → (a ≡ b) ⊎ IsBefore b a
first_or a b m o h = by (equal_tells b.block a.block) where
  by : ((b.block == a.block) ≡ true) ⊎ ((b.block == a.block) ≡ false) → (a ≡ b) ⊎ IsBefore b a
  by (inl t) =
      let s : Some b.due ≡ Some a.due = sym (ap (λ c. if c then Some b.due else due_of m a.block) t) ∙ h in
      let e : b.due ≡ a.due = cc in
      let n : b.block ≡ a.block = equal_is b.block a.block t in
      let is : a ≡ b = same_timer a b (sym e) (sym n) in
      inl is
  by (inr f) = inr (ahead_before b a (all_told (λ (c : Armed). is_ahead b c ≡ true) m a.block a.due o.0 (sym (told_rest b m a.block f) ∙ h)))

-- of two timers one alone comes before the other
pub never_both : (a b : Armed) → IsBefore a b → IsBefore b a → ⊥
never_both a b (inl p) (inl q) = omega (arith, p, q)
never_both a b (inl p) (inr q) = omega (arith, p, q.0)
never_both a b (inr p) (inl q) = omega (arith, p.0, q)
never_both a b (inr p) (inr q) = omega (arith, p.1, q.1)

-- so the first of both is one
firsts_join : (a b : Armed) → (a ≡ b) ⊎ IsBefore b a → (b ≡ a) ⊎ IsBefore a b → a ≡ b
firsts_join a b (inl e) q = e
firsts_join a b (inr p) (inl e) = sym e
firsts_join a b (inr p) (inr q) = absurd (never_both a b q p)

-- and what is behind it tells the same
rests_tell : (a : Armed) (l m : List Armed) (k : ℕ) → due_of l a.block ≡ None → due_of m a.block ≡ None → due_of (a ∷ l) k ≡ due_of (a ∷ m) k → due_of l k ≡ due_of m k
rests_tell a l m k p q h = by (equal_tells a.block k) where
  by : ((a.block == k) ≡ true) ⊎ ((a.block == k) ≡ false) → due_of l k ≡ due_of m k
  by (inl t) = subst (λ j. due_of l j ≡ due_of m j) (equal_is a.block k t) (p ∙ sym q)
  by (inr f) = sym (told_rest a l k f) ∙ h ∙ told_rest a m k f

-- two lists of timers in order that tell the same of each block are one
pub told_settles : (l m : List Armed) → IsOrdered l → IsOrdered m → AreApart l → AreApart m → ((k : ℕ) → due_of l k ≡ due_of m k) → l ≡ m
told_settles [] [] ol om pl pm h = refl
told_settles [] (b ∷ m) ol om pl pm h = let e : None ≡ Some b.due = h b.block ∙ told_first b m in absurd (cc)
told_settles (a ∷ l) [] ol om pl pm h = let e : Some a.due ≡ None = sym (told_first a l) ∙ h a.block in absurd (cc)
told_settles (a ∷ l) (b ∷ m) ol om pl pm h =
    let e : a ≡ b = firsts_join a b (first_or a b m om (sym (h a.block) ∙ told_first a l)) (first_or b a l ol (h b.block ∙ told_first b m)) in
    let q : due_of m a.block ≡ None = subst (λ (c : Armed). due_of m c.block ≡ None) (sym e) pm.0 in
    let g : (k : ℕ) → due_of (a ∷ l) k ≡ due_of (a ∷ m) k = λ k. h k ∙ ap (λ (c : Armed). due_of (c ∷ m) k) (sym e) in
    let rest : l ≡ m = told_settles l m ol.1 om.1 pl.1 pm.1 (λ k. rests_tell a l m k pl.0 q (g k)) in
    cc

-- ---- those that are due

-- a moment, where it is not past a clock
abbrev pub up_to : ℕ → Option ℕ → Option ℕ
up_to clock None = None
up_to clock (Some d) = if nat_le d clock then Some d else None

-- of those that are not due nothing is told up to the clock
none_late : (clock : ℕ) (l : List Armed) (k : ℕ) → AllByRecursion (λ (b : Armed). nat_le b.due clock ≡ false) l → up_to clock (due_of l k) ≡ None
none_late clock [] k all = refl
none_late clock (a ∷ l) k all = by (a.block == k) (none_late clock l k all.1) where
  by : (b : Bool) → up_to clock (due_of l k) ≡ None → up_to clock (if b then Some a.due else due_of l k) ≡ None
  by true again = ap (λ c. if c then Some a.due else None) all.0
  by false again = again

-- what those that are due tell of a block
pub told_due : (clock : ℕ) (l : List Armed) (k : ℕ) → IsOrdered l → due_of (due_at clock l) k ≡ up_to clock (due_of l k)
told_due clock [] k o = refl
told_due clock (a ∷ l) k o = by (nat_le a.due clock) refl (a.block == k) (told_due clock l k o.1) where
  by : (c : Bool) → nat_le a.due clock ≡ c → (b : Bool) → due_of (due_at clock l) k ≡ up_to clock (due_of l k)
      → due_of (if c then a ∷ due_at clock l else []) k ≡ up_to clock (if a.block == k then Some a.due else due_of l k)
  by true h b again = two (a.block == k) where
    two : (b : Bool) → (if b then Some a.due else due_of (due_at clock l) k) ≡ up_to clock (if b then Some a.due else due_of l k)
    two true = sym (ap (λ c. if c then Some a.due else None) h)
    two false = again
  by false h b again = sym (none_late clock (a ∷ l) k (h, late clock a l h o.0))

-- what holds of all holds of those that are due
all_due : (P : Armed → Type 0) (clock : ℕ) (l : List Armed) → AllByRecursion P l → AllByRecursion P (due_at clock l)
all_due P clock [] all = tt
all_due P clock (a ∷ l) all = by (nat_le a.due clock) (all_due P clock l all.1) where
  by : (c : Bool) → AllByRecursion P (due_at clock l) → AllByRecursion P (if c then a ∷ due_at clock l else [])
  by true again = (all.0, again)
  by false again = tt

-- they are in order, and of each block one
pub ordered_due : (clock : ℕ) (l : List Armed) → IsOrdered l → IsOrdered (due_at clock l)
ordered_due clock [] o = tt
ordered_due clock (a ∷ l) o = by (nat_le a.due clock) (ordered_due clock l o.1) where
  by : (c : Bool) → IsOrdered (due_at clock l) → IsOrdered (if c then a ∷ due_at clock l else [])
  by true again = (all_due (λ (b : Armed). is_ahead a b ≡ true) clock l o.0, again)
  by false again = tt

pub apart_due : (clock : ℕ) (l : List Armed) → IsOrdered l → AreApart l → AreApart (due_at clock l)
apart_due clock [] o p = tt
apart_due clock (a ∷ l) o p = by (nat_le a.due clock) (apart_due clock l o.1 p.1) where
  by : (c : Bool) → AreApart (due_at clock l) → AreApart (if c then a ∷ due_at clock l else [])
  by true again = (told_due clock l a.block o.1 ∙ ap (up_to clock) p.0, again)
  by false again = tt
