-- What each call does to the entries.
use Rattle.std.proofs.Common.{◌≡◌, ◌≢◌, ◌⊎◌, ℕ, ◌+◌, ◌-◌, ℤ, cond, not, List, [], ◌∷◌, ◌++◌, map, length, Option, Some, None, eqb, eq-eqb, refl, sym, ap, ◌∙◌, subst, inl, inr, arith}
use Rattle.std.proofs.lemmas.Bool.{cases_eq, ne_eqb}
use Rattle.std.proofs.lemmas.List.{map-append}
use Rattle.arrayvec.specs.ArrayVec.{ArrayVec}
use Rattle.fb_model.specs.Names.{Place}
use Rattle.fb_model.specs.Devices.{is_pending}
use Rattle.fb_chart.specs.declared.table.Point.{Point}
use Rattle.fb_sched.specs.declared.ticket.Ticket.{Ticket}
use Rattle.fb_sched.specs.declared.reaction.Reaction.{Reaction}
use Rattle.fb_sched.specs.Agenda.{Agenda, IsAgenda, slot_at, tickets_for}
use Rattle.fb_sched.specs.Changes.{ChangesSlot, Opens, Takes, Puts, PutsAll, Settles, bare_ticket}
use Rattle.fb_sched.specs.Entries.{Entry, entries, entry_by, sent_entry, booked}
use Rattle.fb_sched.proofs.Slots.{slot_cases}
use Rattle.fb_sched.proofs.Kept.{for_own, for_none}
use Rattle.fb_sched.proofs.Marked.{pending_some, pending_none, more_tickets}

-- the entries of these tickets
abbrev pub entries_of : List (Option Reaction) → List Ticket → List Entry
entries_of slots ts = map (λ (t : Ticket). entry_by (slot_at slots t.slot) t) ts

-- reactions of the same cause and opening make the same entry
same_entry : (r s : Reaction) (t : Ticket) → s.cause ≡ r.cause → s.opening ≡ r.opening → entry_by (Some s) t ≡ entry_by (Some r) t
same_entry r s t cause opening =
    ap (λ c. entry_of c s.opening) cause ∙ ap (entry_of r.cause) opening
  where
    entry_of : ℕ → Point → Entry
    entry_of c p = record { cause = c; opening = p; point = t.point; values = t.values }

-- where a reaction is rewritten with its cause and opening, the entries stay
entries_rewritten : (old new : List (Option Reaction)) (k : ℕ) (r s : Reaction) → ChangesSlot old new k (Some s) → slot_at old k ≡ Some r → s.cause ≡ r.cause → s.opening ≡ r.opening → (ts : List Ticket) → entries_of new ts ≡ entries_of old ts
entries_rewritten old new k r s c was cause opening [] = refl
entries_rewritten old new k r s c was cause opening (t ∷ ts) =
    ap (λ e. e ∷ entries_of new ts) (here (slot_cases old new k (Some s) c t.slot)) ∙ ap (λ es. entry_by (slot_at old t.slot) t ∷ es) (entries_rewritten old new k r s c was cause opening ts)
  where
    here : (((t.slot ≡ k) × (slot_at new t.slot ≡ Some s)) ⊎ ((t.slot ≢ k) × (slot_at new t.slot ≡ slot_at old t.slot))) → entry_by (slot_at new t.slot) t ≡ entry_by (slot_at old t.slot) t
    here (inl p) = ap (λ o. entry_by o t) p.1 ∙ same_entry r s t cause opening ∙ sym (ap (λ o. entry_by o t) (ap (slot_at old) p.0 ∙ was))
    here (inr p) = ap (λ o. entry_by o t) p.1

-- and where a slot changes that no ticket is for
entries_untouched : (old new : List (Option Reaction)) (k : ℕ) (o : Option Reaction) → ChangesSlot old new k o → (ts : List Ticket) → tickets_for k ts ≡ 0 → entries_of new ts ≡ entries_of old ts
entries_untouched old new k o c [] z = refl
entries_untouched old new k o c (t ∷ ts) z =
    let later : tickets_for k ts ≡ 0 = omega (arith, z, more_tickets k t ts) in
    let other : t.slot ≢ k = λ e. absurd (omega (arith, z, for_own k t ts e)) in
    ap (λ e. e ∷ entries_of new ts) (ap (λ x. entry_by x t) (c.others t.slot other)) ∙ ap (λ es. entry_by (slot_at old t.slot) t ∷ es) (entries_untouched old new k o c ts later)

-- a ticket at the end is an entry at the end
entries_last : (slots : List (Option Reaction)) (ts : List Ticket) (t : Ticket) (r : Reaction) → slot_at slots t.slot ≡ Some r → entries_of slots (ts ++ t ∷ []) ≡ entries_of slots ts ++ entry_by (Some r) t ∷ []
entries_last slots ts t r e = map-append (λ (u : Ticket). entry_by (slot_at slots u.slot) u) ts (t ∷ []) ∙ ap (λ o. entries_of slots ts ++ entry_by o t ∷ []) e

pub opens_entries : (old new : Agenda) (cause : ℕ) (opening : Point) (places : ℕ) (values : ArrayVec ℤ) → IsAgenda old → Opens old cause opening places values new → entries new ≡ entries old ++ record { cause = cause; opening = opening; point = opening; values = values } ∷ []
opens_entries old new cause opening places values h o =
    let t : Ticket = record { slot = o.slot; point = opening; values = values } in
    let s : Reaction = record { cause = cause; opening = opening; places = places; pending = 1; steps = 0 } in
    ap (entries_of new.slots) o.tickets ∙ entries_last new.slots old.tickets t s o.slots.changed
    ∙ ap (λ es. es ++ entry_by (Some s) t ∷ []) (entries_untouched old.slots new.slots o.slot (Some s) o.slots old.tickets (for_none old.slots o.slot o.was_free old.tickets h.open_slots))

pub takes_entries : (old new : Agenda) (first : Ticket) (r : Reaction) → Takes old first new → slot_at old.slots first.slot ≡ Some r → entries old ≡ entry_by (Some r) first ∷ entries new
takes_entries old new first r t was =
    let s : Reaction = record t.reaction { pending = t.reaction.pending - 1 } in
    ap (entries_of old.slots) t.tickets ∙ ap (λ o. entry_by o first ∷ entries_of old.slots new.tickets) was
    ∙ ap (λ es. entry_by (Some r) first ∷ es) (sym (entries_rewritten old.slots new.slots first.slot t.reaction s t.slots t.was refl refl new.tickets))

pub puts_entries : (old new : Agenda) (slot : ℕ) (point : Point) (r : Reaction) → Puts old slot point new → slot_at old.slots slot ≡ Some r → entries new ≡ entries old ++ record { cause = r.cause; opening = r.opening; point = point; values = record { items = [] } } ∷ []
puts_entries old new slot point r p was =
    let t : Ticket = record { slot = slot; point = point; values = record { items = [] } } in
    let s : Reaction = record p.reaction { pending = p.reaction.pending + 1 } in
    let own : p.reaction ≡ r = cc (p.was, was) in
    ap (entries_of new.slots) p.tickets ∙ entries_last new.slots old.tickets t s p.slots.changed
    ∙ ap (λ es. es ++ entry_by (Some s) t ∷ []) (entries_rewritten old.slots new.slots slot p.reaction s p.slots p.was refl refl old.tickets)
    ∙ ap (λ x. entries old ++ entry_by (Some x) t ∷ []) own

-- the entries of tickets without values
bare_entries : (slots : List (Option Reaction)) (slot : ℕ) (r s : Reaction) → slot_at slots slot ≡ Some s → s.cause ≡ r.cause → s.opening ≡ r.opening → (ps : List Point) → entries_of slots (map (bare_ticket slot) ps) ≡ map (sent_entry r) ps
bare_entries slots slot r s e cause opening [] = refl
bare_entries slots slot r s e cause opening (p ∷ ps) =
    ap (λ o. entry_by o (bare_ticket slot p) ∷ entries_of slots (map (bare_ticket slot) ps)) e
    ∙ ap (λ x. x ∷ entries_of slots (map (bare_ticket slot) ps)) (same_entry r s (bare_ticket slot p) cause opening)
    ∙ ap (λ es. sent_entry r p ∷ es) (bare_entries slots slot r s e cause opening ps)

pub puts_all_entries : (old new : Agenda) (slot : ℕ) (points : List Point) (r : Reaction) → PutsAll old slot points new → slot_at old.slots slot ≡ Some r → entries new ≡ entries old ++ map (sent_entry r) points
puts_all_entries old new slot points r p was =
    let s : Reaction = record p.reaction { pending = p.reaction.pending + length points } in
    let own : p.reaction ≡ r = cc (p.was, was) in
    ap (entries_of new.slots) p.tickets ∙ map-append (λ (u : Ticket). entry_by (slot_at new.slots u.slot) u) old.tickets (map (bare_ticket slot) points)
    ∙ ap (λ es. es ++ entries_of new.slots (map (bare_ticket slot) points)) (entries_rewritten old.slots new.slots slot p.reaction s p.slots p.was refl refl old.tickets)
    ∙ ap (λ es. entries old ++ es) (bare_entries new.slots slot p.reaction s p.slots.changed refl refl points)
    ∙ ap (λ (x : Reaction). entries old ++ map (sent_entry x) points) own

pub settles_entries : (old new : Agenda) (slot steps : ℕ) (ended : Option Reaction) → IsAgenda old → Settles old slot steps ended new → entries new ≡ entries old
settles_entries old new slot steps ended h s =
    let r = s.reaction in
    let more : Reaction = record r { steps = r.steps + steps } in
    ap (entries_of new.slots) s.tickets
    ∙ elim (cases_eq r.pending 0) [
      | inl z ↦ entries_untouched old.slots new.slots slot _ s.slots old.tickets (sym (h.counted slot r s.was) ∙ z)
      | inr n ↦ entries_rewritten old.slots new.slots slot r more (subst (λ b. ChangesSlot old.slots new.slots slot (cond b None (Some more))) (ne_eqb r.pending 0 n) s.slots) s.was refl refl old.tickets
    ]

-- a cause is pending where its reaction counts an entry
pub pending_is : (a : Agenda) (place : Point → Place) (slot : ℕ) (r : Reaction) → IsAgenda a → slot_at a.slots slot ≡ Some r → is_pending r.cause (map (booked place) (entries a)) ≡ not (eqb r.pending 0)
pending_is a place slot r h e =
    elim (cases_eq r.pending 0) [
      | inl z ↦ pending_none place a.slots slot r h.different e a.tickets h.open_slots (sym (h.counted slot r e) ∙ z) ∙ sym (ap not (eq-eqb r.pending 0 z))
      | inr n ↦ pending_some place a.slots slot r e a.tickets (omega (arith, h.counted slot r e, n)) ∙ sym (ap not (ne_eqb r.pending 0 n))
    ]
