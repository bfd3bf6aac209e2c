-- What holds of queues is kept by their calls.
use Rattle.std.proofs.Common.{◌≡◌, ℕ, zero, suc, ◌+◌, ◌-◌, ℤ, ◌⊎◌, List, [], ◌∷◌, map, length, set, slice_get, Option, Some, None, Bool, true, false, cond, eqb, refl, sym, ◌∙◌, ap, subst, arith, inl, inr}
use Rattle.std.specs.List.{AllByRecursion}
use Rattle.arrayvec.specs.ArrayVec.{ArrayVec}
use Rattle.fb_model.specs.Wires.{Leaf}
use Rattle.fb_model.specs.Certificates.{Certificate}
use Rattle.fb_model.specs.Devices.{places_row}
use Rattle.fb_model.proofs.Lists.{all_append}
use Rattle.fb_chart.specs.declared.table.Point.{Point}
use Rattle.fb_device_tables.specs.Views.{place_at}
use Rattle.fb_device_tables.specs.Tables.{IsPoint}
use Rattle.fb_sched.specs.declared.ticket.Ticket.{Ticket}
use Rattle.fb_sched.specs.declared.reaction.Reaction.{Reaction}
use Rattle.fb_sched.specs.Agenda.{Agenda, slot_at}
use Rattle.fb_sched.specs.Changes.{ChangesSlot, Opens, Takes, PutsAll, Settles, bare_ticket}
use Rattle.fb_sched.proofs.Slots.{slot_cases}
use Rattle.fb_device_state.specs.Keeping.{ArePlaced}

-- another element, or the one that is set
pub set_cases : {X : Type 0} (xs : List X) (i j : ℕ) (y z : X) → slice_get (set xs i y) j ≡ Some z → ((i ≡ j) × (y ≡ z)) ⊎ ((i ≡ j → ⊥) × (slice_get xs j ≡ Some z))
set_cases [] i j y z h = cc
set_cases (x ∷ xs) zero zero y z h = inl (refl, cc)
set_cases (x ∷ xs) zero (suc j) y z h = inr (λ e. cc, h)
set_cases (x ∷ xs) (suc i) zero y z h = inr (λ e. cc, h)
set_cases (x ∷ xs) (suc i) (suc j) y z h =
    elim (set_cases xs i j y z h) [
      | inl k ↦ inl (ap suc k.0, k.1)
      | inr k ↦ inr (λ e. k.0 (omega (arith, e)), k.1)
    ]

pub set_count : {X : Type 0} (xs : List X) (i : ℕ) (y : X) → length (set xs i y) ≡ length xs
set_count [] i y = refl
set_count (x ∷ xs) zero y = refl
set_count (x ∷ xs) (suc i) y = omega (arith, set_count xs i y)

-- what is so of all reactions is so after one was rewritten
slots_kept : (P : Reaction → Type 0) (old new : List (Option Reaction)) (k : ℕ) (o : Option Reaction) → ChangesSlot old new k o → ((s : Reaction) → o ≡ Some s → P s)
    → ((slot : ℕ) (r : Reaction) → slot_at old slot ≡ Some r → P r) → (slot : ℕ) (r : Reaction) → slot_at new slot ≡ Some r → P r
slots_kept P old new k o c own h slot r e =
    elim (slot_cases old new k o c slot) [
      | inl p ↦ own r (sym p.1 ∙ e)
      | inr p ↦ h slot r (sym p.1 ∙ e)
    ]

module _ (cert : Certificate) (all : List Leaf) where
  abbrev weight : Point → ℕ
  weight p = places_row cert (place_at all p)

  -- the opening of a reaction is an event, and its places are those of it
  abbrev IsFair : Reaction → Type 0
  IsFair r = IsPoint all r.opening × (r.places ≡ weight r.opening)

  fair_of : (a : Agenda) → ArePlaced cert all a → (slot : ℕ) (r : Reaction) → slot_at a.slots slot ≡ Some r → IsFair r
  fair_of a p slot r e = (p.openings slot r e, p.weighs slot r e)

  placed_of : (a : Agenda) → AllByRecursion (λ (t : Ticket). IsPoint all t.point) a.tickets → ((slot : ℕ) (r : Reaction) → slot_at a.slots slot ≡ Some r → IsFair r) → ArePlaced cert all a
  placed_of a points fair = record { points = points; openings = λ slot r e. (fair slot r e).0; weighs = λ slot r e. (fair slot r e).1 }

  pub opens_placed : (old new : Agenda) (cause : ℕ) (opening : Point) (places : ℕ) (values : ArrayVec ℤ) → Opens old cause opening places values new → IsPoint all opening → places ≡ weight opening → ArePlaced cert all old → ArePlaced cert all new
  opens_placed old new cause opening places values o point same p =
      placed_of new
      (subst (AllByRecursion (λ (t : Ticket). IsPoint all t.point)) (sym o.tickets) (all_append (λ (t : Ticket). IsPoint all t.point) old.tickets (record { slot = o.slot; point = opening; values = values } ∷ []) p.points (point, tt)))
      (slots_kept IsFair old.slots new.slots o.slot _ o.slots (λ s e. subst IsFair (own s e) (point, same)) (fair_of old p))
    where
      own : (s : Reaction) → Some (record { cause = cause; opening = opening; places = places; pending = 1; steps = 0 }) ≡ Some s → record { cause = cause; opening = opening; places = places; pending = 1; steps = 0 } ≡ s
      own s e = cc

  pub takes_placed : (old new : Agenda) (first : Ticket) → Takes old first new → ArePlaced cert all old → IsPoint all first.point × ArePlaced cert all new
  takes_placed old new first t p =
      let points = subst (AllByRecursion (λ (u : Ticket). IsPoint all u.point)) t.tickets p.points in (
        points.0,
        placed_of new points.1 (slots_kept IsFair old.slots new.slots first.slot _ t.slots (λ s e. subst IsFair (own s e) (fair_of old p first.slot t.reaction t.was)) (fair_of old p)),
      )
    where
      own : (s : Reaction) → Some (record t.reaction { pending = t.reaction.pending - 1 }) ≡ Some s → record t.reaction { pending = t.reaction.pending - 1 } ≡ s
      own s e = cc

  bare_points : (slot : ℕ) (ps : List Point) → AllByRecursion (IsPoint all) ps → AllByRecursion (λ (t : Ticket). IsPoint all t.point) (map (bare_ticket slot) ps)
  bare_points slot [] h = tt
  bare_points slot (p ∷ ps) h = (h.0, bare_points slot ps h.1)

  pub puts_placed : (old new : Agenda) (slot : ℕ) (points : List Point) → PutsAll old slot points new → AllByRecursion (IsPoint all) points → ArePlaced cert all old → ArePlaced cert all new
  puts_placed old new slot points t h p =
      placed_of new (subst (AllByRecursion (λ (u : Ticket). IsPoint all u.point)) (sym t.tickets) (all_append (λ (u : Ticket). IsPoint all u.point) old.tickets (map (bare_ticket slot) points) p.points (bare_points slot points h)))
      (slots_kept IsFair old.slots new.slots slot _ t.slots (λ s e. subst IsFair (own s e) (fair_of old p slot t.reaction t.was)) (fair_of old p))
    where
      own : (s : Reaction) → Some (record t.reaction { pending = t.reaction.pending + length points }) ≡ Some s → record t.reaction { pending = t.reaction.pending + length points } ≡ s
      own s e = cc

  pub settles_placed : (old new : Agenda) (slot steps : ℕ) (ended : Option Reaction) → Settles old slot steps ended new → ArePlaced cert all old → ArePlaced cert all new
  settles_placed old new slot steps ended t p =
      placed_of new (subst (AllByRecursion (λ (u : Ticket). IsPoint all u.point)) (sym t.tickets) p.points)
      (slots_kept IsFair old.slots new.slots slot _ t.slots (λ s e. own (eqb t.reaction.pending 0) s e) (fair_of old p))
    where
      own : (b : Bool) (s : Reaction) → cond b None (Some (record t.reaction { steps = t.reaction.steps + steps })) ≡ Some s → IsFair s
      own true s e = cc
      own false s e = (let k : record t.reaction { steps = t.reaction.steps + steps } ≡ s = cc in subst IsFair k (fair_of old p slot t.reaction t.was))
