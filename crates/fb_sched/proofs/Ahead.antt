-- One timer before another, in numbers.
use Rattle.std.proofs.Common.{◌≡◌, ℕ, suc, ◌<◌, ◌≤◌, ◌⊎◌, inl, inr, Bool, true, false, ◌&&◌, ◌||◌, refl, sym, arith}
use Rattle.std.specs.Prelude.{◌==◌, ◌≢◌, nat_lt}
use Rattle.std.proofs.lemmas.Bool.Decides.{leb_tells, eqb_tells}
use Rattle.fb_sched.specs.declared.armed.Armed.{Armed}
use Rattle.fb_sched.specs.Order.{is_ahead}

-- earlier, or at one moment and of a block before
abbrev pub IsBefore : Armed → Armed → Type 0
IsBefore a b = (a.due < b.due) ⊎ ((a.due ≡ b.due) × (a.block < b.block))

behind : (a b : Armed) → b.due < suc a.due → b.block < suc a.block → IsBefore a b → ⊥
behind a b d k (inl h) = omega (arith, d, h)
behind a b d k (inr h) = omega (arith, k, h.1)

later : (a b : Armed) → b.due < suc a.due → a.due ≢ b.due → IsBefore a b → ⊥
later a b d n (inl h) = omega (arith, d, h)
later a b d n (inr h) = n h.0

-- the test, and what it tells
pub ahead_tells : (a b : Armed) → ((is_ahead a b ≡ true) × IsBefore a b) ⊎ ((is_ahead a b ≡ false) × (IsBefore a b → ⊥))
ahead_tells a b = by (nat_lt a.due b.due) (a.due == b.due) (nat_lt a.block b.block) (leb_tells (suc a.due) b.due) (eqb_tells a.due b.due) (leb_tells (suc a.block) b.block) where
  by : (x y z : Bool) → ((x ≡ true) × (suc a.due ≤ b.due)) ⊎ ((x ≡ false) × (b.due < suc a.due)) → ((y ≡ true) × (a.due ≡ b.due)) ⊎ ((y ≡ false) × (a.due ≢ b.due))
      → ((z ≡ true) × (suc a.block ≤ b.block)) ⊎ ((z ≡ false) × (b.block < suc a.block))
      → (((x || (y && z)) ≡ true) × IsBefore a b) ⊎ (((x || (y && z)) ≡ false) × (IsBefore a b → ⊥))
  by true y z (inl p) q r = inl (refl, inl (omega (arith, p.1)))
  by true y z (inr p) q r = absurd (cc)
  by false true true (inr p) (inl q) (inl r) = inl (refl, inr (q.1, omega (arith, r.1)))
  by false true false (inr p) (inl q) (inr r) = inr (refl, behind a b p.1 r.1)
  by false false z (inr p) (inr q) r = inr (refl, later a b p.1 q.1)
  by false y z (inl p) q r = absurd (cc)
  by false true true (inr p) q (inr r) = absurd (cc)
  by false true false (inr p) q (inl r) = absurd (cc)
  by false true z (inr p) (inr q) r = absurd (cc)
  by false false z (inr p) (inl q) r = absurd (cc)

pub ahead_before : (a b : Armed) → is_ahead a b ≡ true → IsBefore a b
ahead_before a b h = by (ahead_tells a b) where
  by : ((is_ahead a b ≡ true) × IsBefore a b) ⊎ ((is_ahead a b ≡ false) × (IsBefore a b → ⊥)) → IsBefore a b
  by (inl p) = p.1
  by (inr p) = absurd (cc)

pub before_ahead : (a b : Armed) → IsBefore a b → is_ahead a b ≡ true
before_ahead a b h = by (ahead_tells a b) where
  by : ((is_ahead a b ≡ true) × IsBefore a b) ⊎ ((is_ahead a b ≡ false) × (IsBefore a b → ⊥)) → is_ahead a b ≡ true
  by (inl p) = p.0
  by (inr p) = absurd (p.1 h)

pub not_before : (a b : Armed) → is_ahead a b ≡ false → IsBefore a b → ⊥
not_before a b h p = let t = before_ahead a b p in cc

before_on : (a b c : Armed) → IsBefore a b → IsBefore b c → IsBefore a c
before_on a b c (inl p) (inl q) = inl (omega (arith, p, q))
before_on a b c (inl p) (inr q) = inl (omega (arith, p, q.0))
before_on a b c (inr p) (inl q) = inl (omega (arith, p.0, q))
before_on a b c (inr p) (inr q) = inr (omega (arith, p.0, q.0), omega (arith, p.1, q.1))

pub ahead_on : (a b c : Armed) → is_ahead a b ≡ true → is_ahead b c ≡ true → is_ahead a c ≡ true
ahead_on a b c p q = before_ahead a c (before_on a b c (ahead_before a b p) (ahead_before b c q))

below : (j k : ℕ) → (j < k → ⊥) → j ≢ k → k < j
below j k n m = by (leb_tells (suc k) j) (leb_tells (suc j) k) where
  by : {x y : Bool} → ((x ≡ true) × (suc k ≤ j)) ⊎ ((x ≡ false) × (j < suc k)) → ((y ≡ true) × (suc j ≤ k)) ⊎ ((y ≡ false) × (k < suc j)) → k < j
  by (inl p) q = omega (arith, p.1)
  by (inr p) (inl q) = absurd (n (omega (arith, q.1)))
  by (inr p) (inr q) = absurd (m (omega (arith, p.1, q.1)))

-- of two blocks one comes before the other
pub ahead_else : (a b : Armed) → is_ahead a b ≡ false → a.block ≢ b.block → is_ahead b a ≡ true
ahead_else a b h n = by (eqb_tells a.due b.due) where
  by : {z : Bool} → ((z ≡ true) × (a.due ≡ b.due)) ⊎ ((z ≡ false) × (a.due ≢ b.due)) → is_ahead b a ≡ true
  by (inl e) = before_ahead b a (inr (sym e.1, below a.block b.block (λ l. not_before a b h (inr (e.1, l))) n))
  by (inr e) = before_ahead b a (inl (below a.due b.due (λ l. not_before a b h (inl l)) e.1))
