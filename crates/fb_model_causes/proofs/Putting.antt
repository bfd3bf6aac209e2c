-- Functions that are changed at one number.
use Rattle.std.proofs.Common.{◌≡◌, ℕ, ◌+◌, ◌-◌, ◌<◌, ◌≤◌, cond, List, [], ◌∷◌, refl, sym, ◌∙◌, ap, subst, inl, inr}
use Rattle.std.specs.Prelude.{nat_lt}
use Rattle.std.specs.List.{AllByRecursion}
use Rattle.std.proofs.lemmas.Bool.{eq-eqb, ne_eqb, lt-ltb, le-ltb, cases_eq}
use Rattle.fb_model.specs.Names.{Place}
use Rattle.fb_model.specs.Devices.{Entry, Machine, put}
use Rattle.fb_model.specs.Headline.{IsOpen}
use Rattle.fb_model.specs.World.{roots_from, World}

module _ {A : Type 0} where
  pub put_here : (f : ℕ → A) (d : ℕ) (x : A) → put f d x d ≡ x
  put_here f d x = ap (λ t. cond t x (f d)) (eq-eqb d d refl)

  pub put_other : (f : ℕ → A) (d : ℕ) (x : A) (j : ℕ) → (d ≡ j → ⊥) → put f d x j ≡ f j
  put_other f d x j ne = ap (λ t. cond t x (f j)) (ne_eqb d j ne)

-- a device's machine is another
module _ (old new : World) (d : ℕ) (machine : Machine) (machines : new.machines ≡ put old.machines d machine) where
  pub machine_here : new.machines d ≡ machine
  machine_here = ap (λ f. f d) machines ∙ put_here old.machines d machine

  pub machine_other : (j : ℕ) → (d ≡ j → ⊥) → new.machines j ≡ old.machines j
  machine_other j ne = ap (λ f. f j) machines ∙ put_other old.machines d machine j ne

  pub at_machine : (P : Machine → Type 0) (j : ℕ) → (d ≡ j → P machine) → ((d ≡ j → ⊥) → P (old.machines j)) → P (new.machines j)
  at_machine P j f k = elim (cases_eq d j) [
    | inl e ↦ subst P (sym (ap new.machines (sym e) ∙ machine_here)) (f e)
    | inr ne ↦ subst P (sym (machine_other j ne)) (k ne)
  ]

pub roots_before_these : (of : ℕ → ℕ) (first last root c : ℕ) → c < first → roots_from of first last root c ≡ of c
roots_before_these of first last root c l = ap (λ t. cond t (of c) (cond (nat_lt c last) (root + (c - first)) (of c))) (lt-ltb c first l)

pub roots_of_these : (of : ℕ → ℕ) (first last root c : ℕ) → first ≤ c → c < last → roots_from of first last root c ≡ root + (c - first)
roots_of_these of first last root c l m =
    ap (λ t. cond t (of c) (cond (nat_lt c last) (root + (c - first)) (of c))) (le-ltb c first l)
    ∙ ap (λ t. cond t (root + (c - first)) (of c)) (lt-ltb c last m)

-- what is so of each entry is so of an open one
pub open_is : (P : ℕ → Place → Type 0) (es : List Entry) (c : ℕ) (p : Place) → AllByRecursion (λ e. P e.cause e.opening) es → IsOpen es c p → P c p
open_is P [] c p h i = absurd i
open_is P (e ∷ es) c p h (inl i) = subst (λ x. P c x) i.1 (subst (λ x. P x e.opening) i.0 h.0)
open_is P (e ∷ es) c p h (inr i) = open_is P es c p h.1 i
