-- Reactions and pending tickets: slots are freed one by one as their last tickets are passed.
use Rattle.std.proofs.Common.{◌≡◌, ◌≢◌, ◌⊎◌, ℕ, zero, suc, ◌+◌, ◌<◌, ◌≤◌, Bool, true, false, cond, ◌||◌, List, [], ◌∷◌, length, map, Option, Some, None, is_some, eqb, eq-eqb, refl, sym, ap, ◌∙◌, inl, inr, arith}
use Rattle.std.proofs.lemmas.Bool.{cases_eq, ne_eqb}
use Rattle.fb_model.specs.Names.{Place}
use Rattle.fb_model.specs.Devices as book
use Rattle.fb_model.specs.Devices.{held, is_pending}
use Rattle.fb_chart.specs.declared.table.Point.{Point}
use Rattle.fb_sched.specs.declared.ticket.Ticket.{Ticket}
use Rattle.fb_sched.specs.declared.reaction.Reaction.{Reaction}
use Rattle.fb_sched.specs.Agenda.{Agenda, IsAgenda, IsOpen, slot_at, places_of, all_places, reactions_in, tickets_for}
use Rattle.fb_sched.specs.Changes.{ChangesSlot}
use Rattle.fb_sched.specs.Entries.{AllPending, Weighs, HoldsPlaces, entry_by, booked}
use Rattle.fb_sched.proofs.Slots.{sum_same, places_changed, reactions_changed, one_if, reaction_there}
use Rattle.fb_sched.proofs.Kept.{AllOpen, for_own, for_other}

-- ---- a slot is freed

-- slots of which one holds nothing
abbrev pub freed : List (Option Reaction) → ℕ → List (Option Reaction)
freed [] k = []
freed (x ∷ xs) zero = None ∷ xs
freed (x ∷ xs) (suc k) = x ∷ freed xs k

freed_own : (xs : List (Option Reaction)) (k : ℕ) → slot_at (freed xs k) k ≡ None
freed_own [] k = refl
freed_own (x ∷ xs) zero = refl
freed_own (x ∷ xs) (suc k) = freed_own xs k

freed_other : (xs : List (Option Reaction)) (k j : ℕ) → j ≢ k → slot_at (freed xs k) j ≡ slot_at xs j
freed_other [] k j n = refl
freed_other (x ∷ xs) zero zero n = absurd (n refl)
freed_other (x ∷ xs) zero (suc j) n = refl
freed_other (x ∷ xs) (suc k) zero n = refl
freed_other (x ∷ xs) (suc k) (suc j) n = freed_other xs k j (λ e. n (ap suc e))

freed_changes : (xs : List (Option Reaction)) (k : ℕ) → ChangesSlot xs (freed xs k) k None
freed_changes xs k = record { changed = freed_own xs k; others = λ j n. freed_other xs k j n }

none_there : (o : Option Reaction) → (is_some o ≡ true → ⊥) → o ≡ None
none_there None h = refl
none_there (Some r) h = absurd (h refl)

-- a ticket more is no ticket less
pub more_tickets : (k : ℕ) (t : Ticket) (ts : List Ticket) → tickets_for k ts ≤ tickets_for k (t ∷ ts)
more_tickets k t ts =
    elim (cases_eq t.slot k) [
      | inl e ↦ omega (arith, for_own k t ts e)
      | inr n ↦ omega (arith, for_other k t ts n)
    ]

-- ---- no more reactions than tickets

few_marked : (ts : List Ticket) (ms : List (Option Reaction)) → ((k : ℕ) → IsOpen ms k → 0 < tickets_for k ts) → reactions_in ms ≤ length ts
few_marked [] ms h =
    let none : reactions_in ms ≡ 0 = sum_same one_if refl [] ms (λ k. none_there (slot_at ms k) (λ o. absurd (omega (arith, h k o)))) in
    omega (arith, none)
few_marked (t ∷ ts) ms h =
    let c = freed_changes ms t.slot in
    let later = few_marked ts (freed ms t.slot) (λ k o. still k o (cases_eq k t.slot)) in
    omega (arith, later, reactions_changed ms (freed ms t.slot) t.slot None c, one (slot_at ms t.slot))
  where
    one : (o : Option Reaction) → one_if o ≤ 1
    one None = omega arith
    one (Some r) = omega arith

    still : (k : ℕ) → IsOpen (freed ms t.slot) k → ((k ≡ t.slot) ⊎ (k ≡ t.slot → ⊥)) → 0 < tickets_for k ts
    still k o (inl e) = (let f : is_some (slot_at (freed ms t.slot) k) ≡ false = ap (λ j. is_some (slot_at (freed ms t.slot) j)) e ∙ ap is_some (freed_own ms t.slot) in absurd (cc (o, f)))
    still k o (inr n) = (let there : IsOpen ms k = sym (ap is_some (freed_other ms t.slot k n)) ∙ o in omega (arith, h k there, for_other k t ts (λ e. n (sym e))))

-- an open reaction that is pending has a ticket
has_ticket : (a : Agenda) → IsAgenda a → AllPending a.slots → (k : ℕ) (r : Reaction) → slot_at a.slots k ≡ Some r → 0 < tickets_for k a.tickets
has_ticket a h p k r e = omega (arith, h.counted k r e, p k r e)

pub no_more_reactions : (a : Agenda) → IsAgenda a → AllPending a.slots → reactions_in a.slots ≤ length a.tickets
no_more_reactions a h p = few_marked a.tickets a.slots (λ k o. (let r = reaction_there (slot_at a.slots k) o in has_ticket a h p k r.0 r.1))

-- ---- the places that the book's entries hold

-- the entries of these tickets, in the book's words
abbrev pub bookings : (Point → Place) → List (Option Reaction) → List Ticket → List book.Entry
bookings place slots ts = map (booked place) (map (λ t. entry_by (slot_at slots t.slot) t) ts)

-- different slots have different causes
abbrev pub AllDiffer : List (Option Reaction) → Type 0
AllDiffer slots = (j k : ℕ) (r s : Reaction) → slot_at slots j ≡ Some r → slot_at slots k ≡ Some s → r.cause ≡ s.cause → j ≡ k

cause_is : (slots : List (Option Reaction)) (t : Ticket) (r : Reaction) → slot_at slots t.slot ≡ Some r → (entry_by (slot_at slots t.slot) t).cause ≡ r.cause
cause_is slots t r e = ap (λ o. (entry_by o t).cause) e

opening_is : (slots : List (Option Reaction)) (t : Ticket) (r : Reaction) → slot_at slots t.slot ≡ Some r → (entry_by (slot_at slots t.slot) t).opening ≡ r.opening
opening_is slots t r e = ap (λ o. (entry_by o t).opening) e

-- a cause is pending where its slot has a ticket
pub pending_some : (place : Point → Place) (slots : List (Option Reaction)) (k : ℕ) (r : Reaction) → slot_at slots k ≡ Some r → (ts : List Ticket) → 0 < tickets_for k ts → is_pending r.cause (bookings place slots ts) ≡ true
pending_some place slots k r e [] h = absurd (omega (arith, h))
pending_some place slots k r e (t ∷ ts) h =
    elim (cases_eq t.slot k) [
      | inl s ↦ ap (λ b. b || is_pending r.cause (bookings place slots ts)) (eq-eqb (entry_by (slot_at slots t.slot) t).cause r.cause (cause_is slots t r (ap (slot_at slots) s ∙ e)))
      | inr n ↦ (
          let rest = pending_some place slots k r e ts (omega (arith, h, for_other k t ts n)) in
          ap (λ b. eqb (entry_by (slot_at slots t.slot) t).cause r.cause || b) rest ∙ or_true (eqb (entry_by (slot_at slots t.slot) t).cause r.cause)
          )
    ]
  where
    or_true : (b : Bool) → (b || true) ≡ true
    or_true true = refl
    or_true false = refl

-- and not where it has none
pub pending_none : (place : Point → Place) (slots : List (Option Reaction)) (k : ℕ) (r : Reaction) → AllDiffer slots → slot_at slots k ≡ Some r → (ts : List Ticket) → AllOpen slots ts → tickets_for k ts ≡ 0 → is_pending r.cause (bookings place slots ts) ≡ false
pending_none place slots k r d e [] o h = refl
pending_none place slots k r d e (t ∷ ts) o h =
    elim (cases_eq t.slot k) [
      | inl s ↦ absurd (omega (arith, h, for_own k t ts s))
      | inr n ↦ (
          let x = reaction_there (slot_at slots t.slot) o.0 in
          let other : (entry_by (slot_at slots t.slot) t).cause ≢ r.cause = λ q. n (d t.slot k x.0 r x.1 e (sym (cause_is slots t x.0 x.1) ∙ q)) in
          ap (λ b. b || is_pending r.cause (bookings place slots ts)) (ne_eqb (entry_by (slot_at slots t.slot) t).cause r.cause other)
          ∙ pending_none place slots k r d e ts o.1 (sym (for_other k t ts n) ∙ h)
          )
    ]

-- these slots hold the reactions of the tickets' slots and no others
pub record Marks (slots : List (Option Reaction)) (ts : List Ticket) (ms : List (Option Reaction)) : Type 0 where
  pub kept : (k : ℕ) → 0 < tickets_for k ts → slot_at ms k ≡ slot_at slots k
  pub gone : (k : ℕ) → tickets_for k ts ≡ 0 → slot_at ms k ≡ None

-- passing the last ticket of a slot frees it
marks_freed : (slots : List (Option Reaction)) (t : Ticket) (ts : List Ticket) (ms : List (Option Reaction)) → Marks slots (t ∷ ts) ms → tickets_for t.slot ts ≡ 0 → Marks slots ts (freed ms t.slot)
marks_freed slots t ts ms m z =
    record {
      kept = λ k h. keep k h (cases_eq k t.slot);
      gone = λ k h. go k h (cases_eq k t.slot);
    }
  where
    keep : (k : ℕ) → 0 < tickets_for k ts → ((k ≡ t.slot) ⊎ (k ≡ t.slot → ⊥)) → slot_at (freed ms t.slot) k ≡ slot_at slots k
    keep k h (inl e) = absurd (omega (arith, h, z, ap (λ j. tickets_for j ts) e))
    keep k h (inr n) = freed_other ms t.slot k n ∙ m.kept k (omega (arith, h, more_tickets k t ts))

    go : (k : ℕ) → tickets_for k ts ≡ 0 → ((k ≡ t.slot) ⊎ (k ≡ t.slot → ⊥)) → slot_at (freed ms t.slot) k ≡ None
    go k h (inl e) = ap (slot_at (freed ms t.slot)) e ∙ freed_own ms t.slot
    go k h (inr n) = freed_other ms t.slot k n ∙ m.gone k (for_other k t ts (λ e. n (sym e)) ∙ h)

-- passing another leaves all
marks_stay : (slots : List (Option Reaction)) (t : Ticket) (ts : List Ticket) (ms : List (Option Reaction)) → Marks slots (t ∷ ts) ms → 0 < tickets_for t.slot ts → Marks slots ts ms
marks_stay slots t ts ms m h =
    record {
      kept = λ k p. m.kept k (omega (arith, p, more_tickets k t ts));
      gone = λ k z. m.gone k (for_other k t ts (λ e. absurd (omega (arith, h, z, ap (λ j. tickets_for j ts) e))) ∙ z);
    }

held_marked : (weight : Place → ℕ) (place : Point → Place) (slots : List (Option Reaction)) → AllDiffer slots → Weighs (λ p. weight (place p)) slots → (ts : List Ticket) → AllOpen slots ts → (ms : List (Option Reaction)) → Marks slots ts ms → held weight (bookings place slots ts) ≡ all_places ms
held_marked weight place slots d w [] o ms m = sym (sum_same places_of refl [] ms (λ k. m.gone k refl))
held_marked weight place slots d w (t ∷ ts) o ms m =
    let x = reaction_there (slot_at slots t.slot) o.0 in
    let r = x.0 in
    let cause = cause_is slots t r x.1 in
    let here = ap (λ p. weight (place p)) (opening_is slots t r x.1) in
    let es = bookings place slots ts in
    elim (cases_eq (tickets_for t.slot ts) 0) [
      | inl z ↦ (
          let last : is_pending (entry_by (slot_at slots t.slot) t).cause es ≡ false = ap (λ c. is_pending c es) cause ∙ pending_none place slots t.slot r d x.1 ts o.1 z in
          let rest = held_marked weight place slots d w ts o.1 (freed ms t.slot) (marks_freed slots t ts ms m z) in
          let there : places_of (slot_at ms t.slot) ≡ r.places = ap places_of (m.kept t.slot (omega (arith, for_own t.slot t ts refl)) ∙ x.1) in
          let sum : held weight (bookings place slots (t ∷ ts)) ≡ weight (place (entry_by (slot_at slots t.slot) t).opening) + held weight es = ap (λ b. cond {A = ℕ} b 0 (weight (place (entry_by (slot_at slots t.slot) t).opening)) + held weight es) last in
          omega (arith, sum, rest, there, here, w t.slot r x.1, places_changed ms (freed ms t.slot) t.slot None (freed_changes ms t.slot))
          )
      | inr n ↦ (
          let some : 0 < tickets_for t.slot ts = omega (arith, n) in
          let last : is_pending (entry_by (slot_at slots t.slot) t).cause es ≡ true = ap (λ c. is_pending c es) cause ∙ pending_some place slots t.slot r x.1 ts some in
          let rest = held_marked weight place slots d w ts o.1 ms (marks_stay slots t ts ms m some) in
          let sum : held weight (bookings place slots (t ∷ ts)) ≡ 0 + held weight es = ap (λ b. cond {A = ℕ} b 0 (weight (place (entry_by (slot_at slots t.slot) t).opening)) + held weight es) last in
          omega (arith, sum, rest)
          )
    ]

pub places_held : (a : Agenda) (weight : Place → ℕ) (place : Point → Place) → IsAgenda a → AllPending a.slots → Weighs (λ p. weight (place p)) a.slots → HoldsPlaces weight place a
places_held a weight place h p w =
    held_marked weight place a.slots h.different w a.tickets h.open_slots a.slots
    (record {
      kept = λ k t. refl;
      gone = λ k z. none_there (slot_at a.slots k) (λ o. (let r = reaction_there (slot_at a.slots k) o in absurd (omega (arith, has_ticket a h p k r.0 r.1, z))));
    })
