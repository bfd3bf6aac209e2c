-- Slots of which one changes: what is open, and what the sums over all slots become.
use Rattle.std.proofs.Common.{◌≡◌, ◌≢◌, ◌⊎◌, ℕ, zero, suc, ◌+◌, true, cond, List, [], ◌∷◌, get_or, Option, Some, None, is_some, refl, sym, ap, ◌∙◌, inl, inr, arith}
use Rattle.std.specs.List.{sum_by}
use Rattle.std.proofs.lemmas.Bool.{cases_eq}
use Rattle.std.proofs.lemmas.List.Sums.{sum_by-cons}
use Rattle.fb_sched.specs.declared.reaction.Reaction.{Reaction}
use Rattle.fb_sched.specs.Agenda.{slot_at, IsOpen, places_of, all_places, reactions_in}
use Rattle.fb_sched.specs.Changes.{ChangesSlot}

-- ---- sums over slots, where an empty slot weighs nothing

-- the slots after the first
abbrev pub later : {X : Type 0} → List (Option X) → List (Option X)
later [] = []
later (x ∷ xs) = xs

later_at : {X : Type 0} (xs : List (Option X)) (k : ℕ) → get_or (later xs) k None ≡ get_or xs (suc k) None
later_at [] k = refl
later_at (x ∷ xs) k = refl

sum_first : {X : Type 0} (f : Option X → ℕ) → f None ≡ 0 → (xs : List (Option X)) → sum_by f xs ≡ f (get_or xs 0 None) + sum_by f (later xs)
sum_first f z [] = omega (arith, z)
sum_first f z (x ∷ xs) = sum_by-cons f x xs

-- slots that hold the same weigh the same
pub sum_same : {X : Type 0} (f : Option X → ℕ) → f None ≡ 0 → (xs ys : List (Option X)) → ((k : ℕ) → get_or ys k None ≡ get_or xs k None) → sum_by f ys ≡ sum_by f xs
sum_same f z [] [] h = refl
sum_same f z [] (y ∷ ys) h = (let e = ap f (h 0) in omega (arith, sum_by-cons f y ys, e, z, sum_same f z [] ys (λ k. h (suc k))))
sum_same f z (x ∷ xs) [] h = (let e = ap f (h 0) in omega (arith, sum_by-cons f x xs, e, z, sum_same f z xs [] (λ k. h (suc k))))
sum_same f z (x ∷ xs) (y ∷ ys) h = (let e = ap f (h 0) in omega (arith, sum_by-cons f x xs, sum_by-cons f y ys, e, sum_same f z xs ys (λ k. h (suc k))))

-- where one slot changes, the sum changes by what it weighs
pub sum_changed : {X : Type 0} (f : Option X → ℕ) → f None ≡ 0 → (k : ℕ) (xs ys : List (Option X)) (o : Option X) → get_or ys k None ≡ o → ((j : ℕ) → j ≢ k → get_or ys j None ≡ get_or xs j None)
    → sum_by f ys + f (get_or xs k None) ≡ sum_by f xs + f o
sum_changed f z zero xs ys o e h =
    let rest : sum_by f (later ys) ≡ sum_by f (later xs) = sum_same f z (later xs) (later ys) (λ j. later_at ys j ∙ h (suc j) (λ q. absurd (cc)) ∙ sym (later_at xs j)) in
    let here = ap f e in
    omega (arith, sum_first f z xs, sum_first f z ys, rest, here)
sum_changed f z (suc k) xs ys o e h =
    let rest = sum_changed f z k (later xs) (later ys) o (later_at ys k ∙ e) (λ j n. later_at ys j ∙ h (suc j) (λ q. n (cc)) ∙ sym (later_at xs j)) in
    let head = ap f (h 0 (λ q. absurd (cc))) in
    let at = ap f (later_at xs k) in
    omega (arith, sum_first f z xs, sum_first f z ys, rest, head, at)

-- ---- one slot of a queue

pub places_changed : (old new : List (Option Reaction)) (k : ℕ) (o : Option Reaction) → ChangesSlot old new k o → all_places new + places_of (slot_at old k) ≡ all_places old + places_of o
places_changed old new k o c = sum_changed places_of refl k old new o c.changed c.others

-- a slot that a reaction takes or leaves
abbrev pub one_if : Option Reaction → ℕ
one_if o = cond (is_some o) 1 0

pub reactions_changed : (old new : List (Option Reaction)) (k : ℕ) (o : Option Reaction) → ChangesSlot old new k o → reactions_in new + one_if (slot_at old k) ≡ reactions_in old + one_if o
reactions_changed old new k o c = sum_changed one_if refl k old new o c.changed c.others

-- what a slot holds was written now, or was there before
pub slot_cases : (old new : List (Option Reaction)) (k : ℕ) (o : Option Reaction) → ChangesSlot old new k o → (j : ℕ) → ((j ≡ k) × (slot_at new j ≡ o)) ⊎ ((j ≢ k) × (slot_at new j ≡ slot_at old j))
slot_cases old new k o c j =
    elim (cases_eq j k) [
      | inl e ↦ inl (e, ap (slot_at new) e ∙ c.changed)
      | inr n ↦ inr (n, c.others j n)
    ]

-- the reaction of a slot that holds one
pub reaction_there : (o : Option Reaction) → is_some o ≡ true → (r : Reaction) × (o ≡ Some r)
reaction_there None h = absurd (cc)
reaction_there (Some r) h = (r, refl)

-- a slot stays open where a reaction is written
pub open_stays : (old new : List (Option Reaction)) (k : ℕ) (r : Reaction) → ChangesSlot old new k (Some r) → (j : ℕ) → IsOpen old j → IsOpen new j
open_stays old new k r c j h =
    elim (slot_cases old new k (Some r) c j) [
      | inl p ↦ ap is_some p.1
      | inr p ↦ ap is_some p.1 ∙ h
    ]
