-- Two causes that are open hold the places of both of their openings.
use Rattle.std.proofs.Common.{◌≡◌, ℕ, ◌+◌, ◌≤◌, Bool, true, false, cond, eqb, List, [], ◌∷◌, refl, sym, ◌∙◌, ap, arith, inl, inr}
use Rattle.std.specs.List.{AllByRecursion}
use Rattle.std.proofs.lemmas.Bool.{or_cases, or_left, or_right, eqb-true, eq-eqb}
use Rattle.fb_model.specs.Names.{Place}
use Rattle.fb_model.specs.Devices.{Entry, is_pending, held}
use Rattle.fb_model.specs.Headline.{pending_of, IsOpen}
use Rattle.fb_model.proofs.Holding.{pending-cons}

-- each entry is pending
pub all_pending : (q es : List Entry) → ((d : ℕ) → is_pending d es ≡ true → is_pending d q ≡ true) → AllByRecursion (λ e. is_pending e.cause q ≡ true) es
all_pending q [] h = tt
all_pending q (e ∷ es) h =
    (h e.cause (or_left (eqb e.cause e.cause) (is_pending e.cause es) (eq-eqb e.cause e.cause refl)), all_pending q es (λ d p. h d (or_right (eqb e.cause d) (is_pending d es) p)))

-- the opening of a pending cause is the one that its entries have
pub opening_is : (of : ℕ → Place) (c : ℕ) (o : Place) (es : List Entry) → AllByRecursion (λ e. e.opening ≡ of e.cause) es → AllByRecursion (λ e. e.cause ≡ c → e.opening ≡ o) es → is_pending c es ≡ true → of c ≡ o
opening_is of c o [] h k p = cc
opening_is of c o (e ∷ es) h k p =
    elim (or_cases (eqb e.cause c) (is_pending c es) p) [
      | inl t ↦ (let same : e.cause ≡ c = eqb-true e.cause c t in ap of (sym same) ∙ sym h.0 ∙ k.0 same)
      | inr t ↦ opening_is of c o es h.1 k.1 t
    ]

module _ (weight : Place → ℕ) (of : ℕ → Place) where
  pub held_one : (c : ℕ) (es : List Entry) → AllByRecursion (λ e. e.opening ≡ of e.cause) es → is_pending c es ≡ true → weight (of c) ≤ held weight es
  held_one c [] h p = cc
  held_one c (e ∷ es) h p = go (is_pending c es) refl (held_one c es h.1)
    where
      go : (t : Bool) → is_pending c es ≡ t → (is_pending c es ≡ true → weight (of c) ≤ held weight es) → weight (of c) ≤ held weight (e ∷ es)
      go true t ih = omega (arith, ih t)
      go false t ih =
          elim (or_cases (eqb e.cause c) (is_pending c es) p) [
            | inl s ↦ (
                let same : e.cause ≡ c = eqb-true e.cause c s in
                let new : cond (is_pending e.cause es) 0 (weight e.opening) ≡ weight (of c) = ap (λ d. cond (is_pending d es) 0 (weight e.opening)) same ∙ ap (λ b. cond b 0 (weight e.opening)) t ∙ ap weight (h.0 ∙ ap of same) in
                omega (arith, new)
                )
            | inr s ↦ (let both : true ≡ false = sym s ∙ t in cc)
          ]

  -- the first entry's cause is not pending behind it
  held_new : (c d : ℕ) (e : Entry) (es : List Entry) → AllByRecursion (λ e. e.opening ≡ of e.cause) (e ∷ es) → e.cause ≡ c → is_pending c es ≡ false → is_pending d es ≡ true → weight (of c) + weight (of d) ≤ held weight (e ∷ es)
  held_new c d e es h same t p =
      let new : cond (is_pending e.cause es) 0 (weight e.opening) ≡ weight (of c) = ap (λ k. cond (is_pending k es) 0 (weight e.opening)) same ∙ ap (λ b. cond b 0 (weight e.opening)) t ∙ ap weight (h.0 ∙ ap of same) in
      omega (arith, new, held_one d es h.1 p)

  pub held_two : (c d : ℕ) (es : List Entry) → AllByRecursion (λ e. e.opening ≡ of e.cause) es → (c ≡ d → ⊥) → is_pending c es ≡ true → is_pending d es ≡ true → weight (of c) + weight (of d) ≤ held weight es
  held_two c d [] h n p r = cc
  held_two c d (e ∷ es) h n p r = go (is_pending c es) refl (is_pending d es) refl (held_two c d es h.1 n)
    where
      go : (t : Bool) → is_pending c es ≡ t → (u : Bool) → is_pending d es ≡ u → (is_pending c es ≡ true → is_pending d es ≡ true → weight (of c) + weight (of d) ≤ held weight es) → weight (of c) + weight (of d) ≤ held weight (e ∷ es)
      go true t true u ih = omega (arith, ih t u)
      go false t true u ih =
          elim (or_cases (eqb e.cause c) (is_pending c es) p) [ inl s ↦ held_new c d e es h (eqb-true e.cause c s) t u | inr s ↦ (let both : true ≡ false = sym s ∙ t in cc) ]
      go true t false u ih =
          elim (or_cases (eqb e.cause d) (is_pending d es) r) [ inl s ↦ omega (arith, held_new d c e es h (eqb-true e.cause d s) u t) | inr s ↦ (let both : true ≡ false = sym s ∙ u in cc) ]
      go false t false u ih =
          elim (or_cases (eqb e.cause c) (is_pending c es) p) [
            | inl s ↦ elim (or_cases (eqb e.cause d) (is_pending d es) r) [
              | inl v ↦ absurd (n (sym (eqb-true e.cause c s) ∙ eqb-true e.cause d v))
              | inr v ↦ (let both : true ≡ false = sym v ∙ u in cc)
            ]
            | inr s ↦ (let both : true ≡ false = sym s ∙ t in cc)
          ]

-- a pending cause counts something
pub pending_least : (f : Place → ℕ) (c : ℕ) (q : List Entry) → AllByRecursion (λ e. 1 ≤ f e.place) q → is_pending c q ≡ true → 1 ≤ pending_of f c q
pending_least f c [] h p = cc
pending_least f c (e ∷ es) h p =
    elim (or_cases (eqb e.cause c) (is_pending c es) p) [
      | inl t ↦ omega (arith, pending-cons f c e es, ap (λ b. cond b (f e.place) 0) t, h.0)
      | inr t ↦ omega (arith, pending-cons f c e es, pending_least f c es h.1 t)
    ]

-- what is so of each entry's cause is so of one that is open
pub open_counts : (f : Place → ℕ) (c : ℕ) (o : Place) (q es : List Entry) → AllByRecursion (λ e. pending_of f e.cause q ≤ f e.opening) es → IsOpen es c o → pending_of f c q ≤ f o
open_counts f c o q [] h p = absurd p
open_counts f c o q (e ∷ es) h p =
    elim p [
      | inl same ↦ omega (arith, h.0, ap (λ d. pending_of f d q) same.0, ap f same.1)
      | inr later ↦ open_counts f c o q es h.1 later
    ]
