-- How many timers stand before one: a search by halving finds it, and there one is put in and taken out.
use Rattle.std.proofs.Common.{◌≡◌, ℕ, zero, suc, ◌<◌, ◌≤◌, Bool, true, false, List, [], ◌∷◌, length, Some, None, refl, sym, ap, subst, ◌∙◌, ◌⊎◌, inl, inr, arith, insert, remove}
use Rattle.std.specs.Prelude.{◌==◌, if◌then◌else◌, slice_index_or}
use Rattle.std.specs.List.{AllByRecursion}
use Rattle.std.specs.List.Sorted.{IsPartitionedBy, IsPartitionPoint}
use Rattle.fb_sched.specs.declared.armed.Armed.{Armed}
use Rattle.fb_sched.specs.Order.{is_ahead, IsOrdered, position, placed, without, due_of}
use Rattle.fb_sched.proofs.Ahead.{IsBefore, ahead_tells, ahead_on, ahead_else}
use Rattle.fb_sched.proofs.Ordered.{other_block, other_rest, differ}
use Rattle.fb_sched.proofs.Told.{equal_tells, equal_is, same_timer, all_told, never_both}

-- ---- the search

-- what holds of all holds of the one of an index
all_at : (P : Armed → Type 0) (l : List Armed) (j : ℕ) (d : Armed) → AllByRecursion P l → j < length l → P (slice_index_or l j d)
all_at P [] j d all h = absurd (omega (arith, h))
all_at P (a ∷ l) zero d all h = all.0
all_at P (a ∷ l) (suc j) d all h = all_at P l j d all.1 (omega (arith, h))

-- those that stand before one come first
pub parted : (x : Armed) (l : List Armed) → IsOrdered l → IsPartitionedBy (λ (y : Armed). is_ahead y x) l
parted x [] o i j d le h t = absurd (omega (arith, h))
parted x (a ∷ l) o zero zero d le h t = t
parted x (a ∷ l) o zero (suc j) d le h t = ahead_on a (slice_index_or l j d) x (all_at (λ (b : Armed). is_ahead a b ≡ true) l j d o.0 (omega (arith, h))) t
parted x (a ∷ l) o (suc i) zero d le h t = absurd (omega (arith, le))
parted x (a ∷ l) o (suc i) (suc j) d le h t = parted x l o.1 i j d (omega (arith, le)) (omega (arith, h)) t

-- so their number is where the others begin
pub place_found : (x : Armed) (l : List Armed) (i : ℕ) → i ≤ length l → IsPartitionPoint (λ (y : Armed). is_ahead y x ≡ true) (λ (y : Armed). is_ahead y x ≡ false) l i → i ≡ position x l
place_found x [] i h p = omega (arith, h)
place_found x (a ∷ l) zero h p = sym (ap (λ b. if b then suc (position x l) else 0) (p.1 0 a (omega arith) (omega arith)))
place_found x (a ∷ l) (suc i) h p =
    ap suc (place_found x l i (omega (arith, h)) ((λ k d low high. p.0 (suc k) d (omega arith) (omega (arith, high))), (λ k d low high. p.1 (suc k) d (omega (arith, low)) (omega (arith, high)))))
    ∙ sym (ap (λ b. if b then suc (position x l) else 0) (p.0 0 a (omega arith) (omega arith)))

-- ---- one is put in, and one is taken out

-- of two timers one alone comes before the other
not_both : (a b : Armed) → is_ahead a b ≡ true → is_ahead b a ≡ false
not_both a b t = by (ahead_tells a b) (ahead_tells b a) where
  by : ((is_ahead a b ≡ true) × IsBefore a b) ⊎ ((is_ahead a b ≡ false) × (IsBefore a b → ⊥)) → ((is_ahead b a ≡ true) × IsBefore b a) ⊎ ((is_ahead b a ≡ false) × (IsBefore b a → ⊥)) → is_ahead b a ≡ false
  by (inl p) (inl q) = absurd (never_both a b p.1 q.1)
  by (inl p) (inr q) = q.0
  by (inr p) q = absurd (cc)

pub place_inserts : (x : Armed) (l : List Armed) → due_of l x.block ≡ None → insert l (position x l) x ≡ placed x l
place_inserts x [] n = refl
place_inserts x (a ∷ l) n = by (is_ahead a x) refl (place_inserts x l (other_rest a x l n)) where
  by : (b : Bool) → is_ahead a x ≡ b → insert l (position x l) x ≡ placed x l → insert (a ∷ l) (if b then suc (position x l) else 0) x ≡ (if is_ahead x a then x ∷ a ∷ l else a ∷ placed x l)
  by true t again = ap (λ m. a ∷ m) again ∙ sym (ap (λ c. if c then x ∷ a ∷ l else a ∷ placed x l) (not_both a x t))
  by false f again = sym (ap (λ c. if c then x ∷ a ∷ l else a ∷ placed x l) (ahead_else a x f (λ e. differ a.block x.block (other_block a x l n) (sym e))))

-- none comes before itself
not_self : (a x : Armed) → a ≡ x → is_ahead a x ≡ false
not_self a x e = by (is_ahead a x) refl where
  by : (b : Bool) → is_ahead a x ≡ b → is_ahead a x ≡ false
  by true t =
      let s : is_ahead x x ≡ true = subst (λ (y : Armed). is_ahead y x ≡ true) e t in
      let f : is_ahead x x ≡ false = not_both x x s in
      absurd (cc)
  by false f = f

pub place_removes : (x : Armed) (l : List Armed) → IsOrdered l → due_of l x.block ≡ Some x.due → (position x l < length l) × (remove l (position x l) ≡ without l x.block)
place_removes x [] o h = absurd (cc)
place_removes x (a ∷ l) o h = by (equal_tells a.block x.block) (λ g. place_removes x l o.1 g) where
  by : ((a.block == x.block) ≡ true) ⊎ ((a.block == x.block) ≡ false) → (due_of l x.block ≡ Some x.due → (position x l < length l) × (remove l (position x l) ≡ without l x.block))
      → (position x (a ∷ l) < suc (length l)) × (remove (a ∷ l) (position x (a ∷ l)) ≡ without (a ∷ l) x.block)
  by (inl t) again =
      let s : Some a.due ≡ Some x.due = sym (ap (λ b. if b then Some a.due else due_of l x.block) t) ∙ h in
      let e : a.due ≡ x.due = cc in
      let here : position x (a ∷ l) ≡ 0 = ap (λ b. if b then suc (position x l) else 0) (not_self a x (same_timer a x e (equal_is a.block x.block t))) in
      (omega (arith, here), ap (λ i. remove (a ∷ l) i) here ∙ sym (ap (λ b. if b then l else a ∷ without l x.block) t))
  by (inr f) again =
      let g : due_of l x.block ≡ Some x.due = sym (ap (λ b. if b then Some a.due else due_of l x.block) f) ∙ h in
      let t : is_ahead a x ≡ true = all_told (λ (b : Armed). is_ahead a b ≡ true) l x.block x.due o.0 g in
      let past : position x (a ∷ l) ≡ suc (position x l) = ap (λ b. if b then suc (position x l) else 0) t in
      let rest = again g in
      (omega (arith, past, rest.0), ap (λ i. remove (a ∷ l) i) past ∙ ap (λ m. a ∷ m) rest.1 ∙ sym (ap (λ b. if b then l else a ∷ without l x.block) f))
