-- Looking for a cause by halving.
use Rattle.std.proofs.Common.{◌≡◌, ◌≢◌, ◌≤◌, ◌<◌, ℕ, zero, suc, List, [], ◌∷◌, length, Option, Some, None, slice_get, ap, refl, subst, arith, inl, inr, ◌⊎◌}
use Rattle.std.specs.List.{AllByRecursion}
use Rattle.fb_sched.specs.declared.ticket.Ticket.{Ticket}
use Rattle.fb_sched.specs.declared.reaction.Reaction.{Reaction}
use Rattle.fb_sched.specs.Agenda.{cause_in, IsOpen, Rises, HasNone}

-- one number is smaller, or the other is not greater
either : (a b : ℕ) → (a < b) ⊎ (b ≤ a)
either zero zero = inr (omega arith)
either zero (suc b) = inl (omega arith)
either (suc a) zero = inr (omega arith)
either (suc a) (suc b) = elim (either a b) [ inl h ↦ inl (omega (arith, h)) | inr h ↦ inr (omega (arith, h)) ]

-- where a ticket is of an older cause, so are those before it
pub older_before : (cause : ℕ) (slots : List (Option Reaction)) (tickets : List Ticket) (m : ℕ) (u : Ticket) → Rises cause slots tickets → slice_get tickets m ≡ Some u → cause_in slots u < cause
    → (k : ℕ) (t : Ticket) → k ≤ m → slice_get tickets k ≡ Some t → cause_in slots t < cause
older_before cause slots tickets m u rises at older k t before here =
    elim (either (cause_in slots t) cause) [
      | inl h ↦ h
      | inr h ↦ absurd (omega (arith, older, h, rises k m t u before here at h))
    ]

-- where a ticket is not, those behind it are not
pub not_behind : (cause : ℕ) (slots : List (Option Reaction)) (tickets : List Ticket) (m : ℕ) (u : Ticket) → Rises cause slots tickets → slice_get tickets m ≡ Some u → cause ≤ cause_in slots u
    → (k : ℕ) (t : Ticket) → m ≤ k → slice_get tickets k ≡ Some t → cause ≤ cause_in slots t
not_behind cause slots tickets m u rises at later k t behind here = omega (arith, later, rises m k u t behind at here later)

-- a place within has a ticket
pub has_ticket : (tickets : List Ticket) (m : ℕ) → m < length tickets → (u : Ticket) × (slice_get tickets m ≡ Some u)
has_ticket (t ∷ ts) zero h = (t, refl)
has_ticket (t ∷ ts) (suc m) h = has_ticket ts m (omega (arith, h))
has_ticket [] m h = absurd (omega (arith, h))

-- where all before a place are older, and that of the place is another, no ticket is of the cause
pub none_at : (cause place : ℕ) (slots : List (Option Reaction)) (tickets : List Ticket) (u : Ticket) → Rises cause slots tickets
    → ((k : ℕ) (t : Ticket) → k < place → slice_get tickets k ≡ Some t → cause_in slots t < cause)
    → ((k : ℕ) (t : Ticket) → place ≤ k → slice_get tickets k ≡ Some t → cause ≤ cause_in slots t)
    → slice_get tickets place ≡ Some u → cause_in slots u ≢ cause → HasNone cause slots tickets
none_at cause place slots tickets u rises before behind at other j t here same =
    elim (either j place) [
      | inl h ↦ absurd (omega (arith, same, before j t h here))
      | inr h ↦ other (omega (arith, same, behind place u (omega arith) at, rises place j u t h at here (behind place u (omega arith) at)))
    ]

-- nor where there is no ticket at the place
pub none_behind : (cause place : ℕ) (slots : List (Option Reaction)) (tickets : List Ticket)
    → ((k : ℕ) (t : Ticket) → k < place → slice_get tickets k ≡ Some t → cause_in slots t < cause)
    → slice_get tickets place ≡ None → HasNone cause slots tickets
none_behind cause place slots tickets before at j t here same =
    elim (either j place) [
      | inl h ↦ absurd (omega (arith, same, before j t h here))
      | inr h ↦ absurd (omega (arith, h, within tickets j t here, past tickets place at))
    ]
  where
    within : (ts : List Ticket) (k : ℕ) (x : Ticket) → slice_get ts k ≡ Some x → k < length ts
    within (x ∷ xs) zero y e = omega arith
    within (x ∷ xs) (suc k) y e = omega (arith, within xs k y e)
    within [] k y e = absurd cc

    past : (ts : List Ticket) (k : ℕ) → slice_get ts k ≡ None → length ts ≤ k
    past [] k e = omega arith
    past (x ∷ xs) zero e = absurd cc
    past (x ∷ xs) (suc k) e = omega (arith, past xs k e)

-- the slot of a ticket is open
pub open_at : (slots : List (Option Reaction)) (tickets : List Ticket) (k : ℕ) (t : Ticket) → AllByRecursion (λ (x : Ticket). IsOpen slots x.slot) tickets → slice_get tickets k ≡ Some t → IsOpen slots t.slot
open_at slots (x ∷ xs) zero t (here, rest) e = subst (λ (z : Ticket). IsOpen slots z.slot) (ap (λ (o : Option Ticket). elim o [ None ↦ x | Some z ↦ z ]) e) here
open_at slots (x ∷ xs) (suc k) t (here, rest) e = open_at slots xs k t rest e
open_at slots [] k t h e = absurd cc
