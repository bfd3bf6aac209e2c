-- Queues by numbers, as queues of the book, and the steps of their causes.
use Rattle.std.proofs.Common.{◌≡◌, ℕ, zero, suc, ◌+◌, ◌<◌, cond, List, [], ◌∷◌, set, slice_get, Option, Some, None, true, not, eqb, eq-eqb, refl, sym, ◌∙◌, ap, subst, arith, inl, inr}
use Rattle.std.specs.List.{sum_by}
use Rattle.std.proofs.Math.Path.{fun_ext}
use Rattle.std.proofs.lemmas.Bool.{cond-true, cond-false, cases_eq, ne_eqb}
use Rattle.std.proofs.lemmas.List.Sums.{sum_by-cons}
use Rattle.fb_model.specs.Wires.{Leaf, leaves}
use Rattle.fb_model.specs.System.{Device}
use Rattle.fb_model.specs.Certificates.{Certificate}
use Rattle.fb_model.specs.Devices.{Machine, put, is_pending}
use Rattle.fb_model.specs.Headline.{IsSound}
use Rattle.fb_model.proofs.Running.{known_pending}
use Rattle.fb_device_tables.specs.Views.{place_at}
use Rattle.fb_sched.specs.declared.reaction.Reaction.{Reaction}
use Rattle.fb_sched.specs.Agenda.{Agenda, IsAgenda, IsNew, slot_at}
use Rattle.fb_sched.specs.Entries.{AllPending}
use Rattle.fb_sched.specs.Steps.{spent}
use Rattle.fb_sched.proofs.Entries.{pending_is}
use Rattle.fb_sched.proofs.Steps.{steps_none}
use Rattle.fb_device_state.specs.Machines.{queue_at, entries_in, spent_in}

-- ---- queues by the numbers of their resources

pub queue_here : (qs : List Agenda) (q : ℕ) (a : Agenda) → slice_get qs q ≡ Some a → queue_at qs q ≡ a
queue_here qs q a h = ap (λ (o : Option Agenda). elim o [ None ↦ record { tickets = []; slots = []; room = 0 } | Some k ↦ k ]) h

pub set_here : (qs : List Agenda) (q : ℕ) (old new : Agenda) → slice_get qs q ≡ Some old → queue_at (set qs q new) q ≡ new
set_here [] q old new h = cc
set_here (x ∷ xs) zero old new h = refl
set_here (x ∷ xs) (suc q) old new h = set_here xs q old new h

pub set_there : (qs : List Agenda) (q j : ℕ) (new : Agenda) → (q ≡ j → ⊥) → queue_at (set qs q new) j ≡ queue_at qs j
set_there [] q j new n = refl
set_there (x ∷ xs) zero zero new n = absurd (n refl)
set_there (x ∷ xs) zero (suc j) new n = refl
set_there (x ∷ xs) (suc q) zero new n = refl
set_there (x ∷ xs) (suc q) (suc j) new n = set_there xs q j new (λ e. n (ap suc e))

queues_at : (all : List Leaf) (qs : List Agenda) (q : ℕ) (old new : Agenda) → slice_get qs q ≡ Some old
    → (j : ℕ) → entries_in all (queue_at (set qs q new) j) ≡ put (λ i. entries_in all (queue_at qs i)) q (entries_in all new) j
queues_at all qs q old new h j =
    elim (cases_eq q j) [
      | inl e ↦ (
          subst (λ k. entries_in all (queue_at (set qs q new) k) ≡ put (λ i. entries_in all (queue_at qs i)) q (entries_in all new) k) e
          (ap (entries_in all) (set_here qs q old new h) ∙ sym (cond-true (eqb q q) (entries_in all new) (entries_in all (queue_at qs q)) (eq-eqb q q refl)))
          )
      | inr n ↦ ap (entries_in all) (set_there qs q j new n) ∙ sym (cond-false (eqb q j) (entries_in all new) (entries_in all (queue_at qs j)) (ne_eqb q j n))
    ]

-- one queue is another, and the others stay
pub queues_is : (all : List Leaf) (qs : List Agenda) (q : ℕ) (old new : Agenda) → slice_get qs q ≡ Some old
    → (λ j. entries_in all (queue_at (set qs q new) j)) ≡ put (λ j. entries_in all (queue_at qs j)) q (entries_in all new)
queues_is all qs q old new h = fun_ext (queues_at all qs q old new h)

-- ---- steps over all queues

pub sum_set : {X : Type 0} (f : X → ℕ) (xs : List X) (i : ℕ) (x y : X) → slice_get xs i ≡ Some x → sum_by f (set xs i y) + f x ≡ sum_by f xs + f y
sum_set f [] i x y h = cc
sum_set f (z ∷ zs) zero x y h = (let e : z ≡ x = cc in omega (arith, sum_by-cons f z zs, sum_by-cons f y zs, ap f e))
sum_set f (z ∷ zs) (suc i) x y h = omega (arith, sum_by-cons f z zs, sum_by-cons f z (set zs i y), sum_set f zs i x y h)

sum_none : {X : Type 0} (f : X → ℕ) (xs : List X) → ((j : ℕ) (x : X) → slice_get xs j ≡ Some x → f x ≡ 0) → sum_by f xs ≡ 0
sum_none f [] h = refl
sum_none f (x ∷ xs) h = omega (arith, sum_by-cons f x xs, h 0 x refl, sum_none f xs (λ j y e. h (suc j) y e))

-- all but one are 0
sum_one : {X : Type 0} (f : X → ℕ) (xs : List X) (i : ℕ) (x : X) → slice_get xs i ≡ Some x → ((j : ℕ) (y : X) → (i ≡ j → ⊥) → slice_get xs j ≡ Some y → f y ≡ 0) → sum_by f xs ≡ f x
sum_one f [] i x h n = cc
sum_one f (z ∷ zs) zero x h n = (let e : z ≡ x = cc in omega (arith, sum_by-cons f z zs, ap f e, sum_none f zs (λ j y k. n (suc j) y (λ s. omega (arith, s)) k)))
sum_one f (z ∷ zs) (suc i) x h n = omega (arith, sum_by-cons f z zs, n 0 z (λ s. omega (arith, s)) refl, sum_one f zs i x h (λ j y s k. n (suc j) y (λ e. s (omega (arith, e))) k))

-- the other queues have no steps of a cause
abbrev pub NoneElse : List Agenda → ℕ → ℕ → Type 0
NoneElse qs q cause = (j : ℕ) (b : Agenda) → (q ≡ j → ⊥) → slice_get qs j ≡ Some b → spent b cause ≡ 0

pub spent_of : (qs : List Agenda) (q : ℕ) (a : Agenda) (cause : ℕ) → slice_get qs q ≡ Some a → NoneElse qs q cause → spent_in qs cause ≡ spent a cause
spent_of qs q a cause h n = sum_one (λ (b : Agenda). spent b cause) qs q a h n

pub spent_put : (qs : List Agenda) (q : ℕ) (old new : Agenda) (cause v : ℕ) → slice_get qs q ≡ Some old → NoneElse qs q cause → spent new ≡ put (spent old) cause v → spent_in (set qs q new) ≡ put (spent_in qs) cause v
spent_put qs q old new cause v h n e = fun_ext (λ d. at d)
  where
    at : (d : ℕ) → spent_in (set qs q new) d ≡ cond (eqb cause d) v (spent_in qs d)
    at d =
        let sums = sum_set (λ (b : Agenda). spent b d) qs q old new h in
        let now : spent new d ≡ cond (eqb cause d) v (spent old d) = ap (λ (f : ℕ → ℕ). f d) e in
        elim (cases_eq cause d) [
          | inl s ↦ (
              let t = eq-eqb cause d s in
              let is_v : cond (eqb cause d) v (spent old d) ≡ v = cond-true (eqb cause d) v (spent old d) t in
              let right : cond (eqb cause d) v (spent_in qs d) ≡ v = cond-true (eqb cause d) v (spent_in qs d) t in
              let before : spent_in qs d ≡ spent old d = subst (λ k. spent_in qs k ≡ spent old k) s (spent_of qs q old cause h n) in
              omega (arith, sums, now, is_v, right, before)
              )
          | inr k ↦ (
              let t = ne_eqb cause d k in
              let is_v : cond (eqb cause d) v (spent old d) ≡ spent old d = cond-false (eqb cause d) v (spent old d) t in
              let right : cond (eqb cause d) v (spent_in qs d) ≡ spent_in qs d = cond-false (eqb cause d) v (spent_in qs d) t in
              omega (arith, sums, now, is_v, right)
              )
        ]

-- ---- causes and their resources

module _ (cert : Certificate) (device : Device) (m : Machine) (s : IsSound cert device m) (j : ℕ) (b : Agenda) (h : IsAgenda b) (queue : m.queues j ≡ entries_in (leaves device) b) where
  -- an open cause with a pending entry has its resource, and is smaller than the next
  pub known_cause : (slot : ℕ) (r : Reaction) → slot_at b.slots slot ≡ Some r → 0 < r.pending → (s.home_of r.cause ≡ j) × (r.cause < m.next)
  known_cause slot r at some =
      let pending : is_pending r.cause (entries_in (leaves device) b) ≡ true = pending_is b (place_at (leaves device)) slot r h at ∙ ap not (ne_eqb r.pending 0 (λ z. omega (arith, z, some))) in
      known_pending device s.opening_of s.home_of m.next j r.cause (m.queues j) (s.entries j) (ap (is_pending r.cause) queue ∙ pending)

  -- a cause of another resource, and one that is still to come, is not open here
  pub not_here : (cause : ℕ) → AllPending b.slots → (s.home_of cause ≡ j → cause < m.next → ⊥) → IsNew cause b.slots
  not_here cause pending n slot r at same =
      let k = known_cause slot r at (pending slot r at) in
      n (ap s.home_of (sym same) ∙ k.0) (omega (arith, same, k.1))

  pub no_steps : (cause : ℕ) → AllPending b.slots → (s.home_of cause ≡ j → cause < m.next → ⊥) → spent b cause ≡ 0
  no_steps cause pending n = steps_none b.slots cause (not_here cause pending n)
