-- A number above a limit is that of a place.
use Rattle.std.proofs.Common.{ℕ, zero, suc, ◌≡◌, ◌<◌, ◌≤◌, ◌⊎◌, inl, inr, ◌==◌, Bool, true, false, List, [], ◌∷◌, length, refl, subst, arith, Contains, if◌then◌else◌}
use Rattle.std.proofs.lemmas.Bool.{eqb-true}
use Rattle.fb_find_graph.specs.Systems.{Inequality, System, inequalities, asks, Fits, IsLeast}
use Rattle.fb_find_graph.proofs.Solving.{asks_le}

past_end : (system : System) (p : ℕ) → length system ≤ p → inequalities system p ≡ []
past_end [] p h = refl
past_end (r ∷ rows) zero h = absurd (omega (arith, h))
past_end (r ∷ rows) (suc p) h = past_end rows p (omega (arith, h))

split : (m n : ℕ) → (m < n) ⊎ (n ≤ m)
split m n = grind arith

same_number : (n : ℕ) → (n == n) ≡ true
same_number n = grind arith

-- the numbers, but 0 at a place
abbrev but : (ℕ → ℕ) → ℕ → ℕ → ℕ
but x p q = if q == p then 0 else x q

but_less : (x : ℕ → ℕ) (p q : ℕ) → but x p q ≤ x q
but_less x p q = by (q == p) where
  by : (b : Bool) → (if b then 0 else x q) ≤ x q
  by true = omega arith
  by false = omega arith

but_fits : (system : System) (x : ℕ → ℕ) (p : ℕ) → length system ≤ p → Fits system x → Fits system (but x p)
but_fits system x p h f q a c = by (q == p) refl where
  by : (b : Bool) → (q == p) ≡ b → asks (but x p) a ≤ (if b then 0 else x q)
  by true e = absurd (let k = subst (λ (as' : List Inequality). Contains as' a) (past_end system q (omega (arith, h, eqb-true q p e))) c in omega (arith, k.1))
  by false e = omega (arith, f q a c, asks_le (but x p) x a (but_less x p))

pub of_place : (system : System) (x : ℕ → ℕ) (p limit : ℕ) → IsLeast system x → limit < x p → p < length system
of_place system x p limit l a = by (split p (length system)) where
  by : (p < length system) ⊎ (length system ≤ p) → p < length system
  by (inl k) = k
  by (inr h) = absurd (let z : but x p p ≡ 0 = rw (same_number p) refl in omega (arith, l.least (but x p) (but_fits system x p h l.fits) p, z, a))
