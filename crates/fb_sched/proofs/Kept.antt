-- Each change of a queue leaves a queue.
use Rattle.std.proofs.Common.{◌≡◌, ◌≢◌, ℕ, suc, ◌+◌, ◌-◌, ◌<◌, ◌≤◌, ℤ, Bool, true, false, cond, List, [], ◌∷◌, ◌++◌, length, Option, Some, None, is_some, eqb, eq-eqb, refl, sym, ap, ◌∙◌, subst, inl, inr, arith, length-append}
use Rattle.std.specs.List.{AllByRecursion}
use Rattle.std.proofs.lemmas.Bool.{cases_eq, ne_eqb}
use Rattle.std.proofs.lemmas.List.Sums.{sum_by-cons, sum_by-append, count_by-le-length}
use Rattle.arrayvec.specs.ArrayVec.{ArrayVec}
use Rattle.fb_chart.specs.declared.table.Point.{Point}
use Rattle.fb_sched.specs.declared.ticket.Ticket.{Ticket}
use Rattle.fb_sched.specs.declared.reaction.Reaction.{Reaction}
use Rattle.fb_sched.specs.Agenda.{Agenda, IsAgenda, IsOpen, IsNew, slot_at, places_of, all_places, tickets_for, is_for}
use Rattle.fb_sched.specs.Changes.{ChangesSlot, Opens, Takes, Puts, PutsAll, Settles}
use Rattle.fb_sched.proofs.Slots.{places_changed, slot_cases, open_stays}

-- ---- tickets and their slots

-- each ticket's slot holds a reaction
abbrev pub AllOpen : List (Option Reaction) → List Ticket → Type 0
AllOpen slots ts = AllByRecursion (λ (t : Ticket). IsOpen slots t.slot) ts

pub all_stay : (old new : List (Option Reaction)) (k : ℕ) (r : Reaction) → ChangesSlot old new k (Some r) → (ts : List Ticket) → AllOpen old ts → AllOpen new ts
all_stay old new k r c [] h = h
all_stay old new k r c (t ∷ ts) h = (open_stays old new k r c t.slot h.0, all_stay old new k r c ts h.1)

pub all_last : (slots : List (Option Reaction)) (ts : List Ticket) (t : Ticket) → AllOpen slots ts → IsOpen slots t.slot → AllOpen slots (ts ++ t ∷ [])
all_last slots [] t h o = (o, h)
all_last slots (u ∷ ts) t h o = (h.0, all_last slots ts t h.1 o)

-- the ticket is for the slot
pub for_own : (k : ℕ) (t : Ticket) (ts : List Ticket) → t.slot ≡ k → tickets_for k (t ∷ ts) ≡ suc (tickets_for k ts)
for_own k t ts e = (let s : cond {A = ℕ} (is_for k t) 1 0 ≡ 1 = ap (λ b. cond {A = ℕ} b 1 0) (eq-eqb t.slot k e) in omega (arith, s, sum_by-cons (λ u. cond {A = ℕ} (is_for k u) 1 0) t ts))

-- and for no other
pub for_other : (k : ℕ) (t : Ticket) (ts : List Ticket) → t.slot ≢ k → tickets_for k (t ∷ ts) ≡ tickets_for k ts
for_other k t ts n = (let s : cond {A = ℕ} (is_for k t) 1 0 ≡ 0 = ap (λ b. cond {A = ℕ} b 1 0) (ne_eqb t.slot k n) in omega (arith, s, sum_by-cons (λ u. cond {A = ℕ} (is_for k u) 1 0) t ts))

last_own : (k : ℕ) (t : Ticket) (ts : List Ticket) → t.slot ≡ k → tickets_for k (ts ++ t ∷ []) ≡ tickets_for k ts + 1
last_own k t ts e = (let a : tickets_for k (ts ++ t ∷ []) ≡ tickets_for k ts + tickets_for k (t ∷ []) = sum_by-append (λ u. cond {A = ℕ} (is_for k u) 1 0) ts (t ∷ []) in omega (arith, a, for_own k t [] e))

last_other : (k : ℕ) (t : Ticket) (ts : List Ticket) → t.slot ≢ k → tickets_for k (ts ++ t ∷ []) ≡ tickets_for k ts
last_other k t ts n = (let a : tickets_for k (ts ++ t ∷ []) ≡ tickets_for k ts + tickets_for k (t ∷ []) = sum_by-append (λ u. cond {A = ℕ} (is_for k u) 1 0) ts (t ∷ []) in omega (arith, a, for_other k t [] n))

-- no ticket is for a slot that holds nothing
pub for_none : (slots : List (Option Reaction)) (k : ℕ) → slot_at slots k ≡ None → (ts : List Ticket) → AllOpen slots ts → tickets_for k ts ≡ 0
for_none slots k e [] h = refl
for_none slots k e (t ∷ ts) h =
    elim (cases_eq t.slot k) [
      | inl s ↦ (let a : is_some (slot_at slots t.slot) ≡ false = ap (λ j. is_some (slot_at slots j)) s ∙ ap is_some e in absurd (cc (h.0, a)))
      | inr n ↦ for_other k t ts n ∙ for_none slots k e ts h.1
    ]

-- slots stay open where one that no ticket is for is freed
pub all_without : (old new : List (Option Reaction)) (k : ℕ) → ChangesSlot old new k None → (ts : List Ticket) → tickets_for k ts ≡ 0 → AllOpen old ts → AllOpen new ts
all_without old new k c [] z h = h
all_without old new k c (t ∷ ts) z h =
    elim (cases_eq t.slot k) [
      | inl s ↦ absurd (omega (arith, for_own k t ts s, z))
      | inr n ↦ (ap is_some (c.others t.slot n) ∙ h.0, all_without old new k c ts (sym (for_other k t ts n) ∙ z) h.1)
    ]

-- ---- a reaction is rewritten: its cause and its places stay

-- the reaction that was in a slot had the same cause
origin : (old new : List (Option Reaction)) (k : ℕ) (r s : Reaction) → ChangesSlot old new k (Some s) → slot_at old k ≡ Some r → s.cause ≡ r.cause → (j : ℕ) (x : Reaction) → slot_at new j ≡ Some x → (y : Reaction) × (slot_at old j ≡ Some y) × (y.cause ≡ x.cause)
origin old new k r s c was same j x h =
    elim (slot_cases old new k (Some s) c j) [
      | inl p ↦ (let e : s ≡ x = cc (p.1, h) in (r, ap (slot_at old) p.0 ∙ was, sym same ∙ ap (λ (q : Reaction). q.cause) e))
      | inr p ↦ (x, sym p.1 ∙ h, refl)
    ]

different_stays : (old new : List (Option Reaction)) (k : ℕ) (r s : Reaction) → ChangesSlot old new k (Some s) → slot_at old k ≡ Some r → s.cause ≡ r.cause
    → ((i j : ℕ) (x y : Reaction) → slot_at old i ≡ Some x → slot_at old j ≡ Some y → x.cause ≡ y.cause → i ≡ j)
    → (i j : ℕ) (x y : Reaction) → slot_at new i ≡ Some x → slot_at new j ≡ Some y → x.cause ≡ y.cause → i ≡ j
different_stays old new k r s c was same d i j x y hi hj e =
    let a = origin old new k r s c was same i x hi in
    let b = origin old new k r s c was same j y hj in
    d i j a.0 b.0 a.1 b.1 (a.2 ∙ e ∙ sym b.2)

pub places_stay : (old new : List (Option Reaction)) (k : ℕ) (r s : Reaction) → ChangesSlot old new k (Some s) → slot_at old k ≡ Some r → s.places ≡ r.places → all_places new ≡ all_places old
places_stay old new k r s c was same =
    let a : places_of (slot_at old k) ≡ r.places = ap places_of was in
    omega (arith, a, same, places_changed old new k (Some s) c)

-- a new cause differs from all others
different_opened : (old new : List (Option Reaction)) (k : ℕ) (s : Reaction) → ChangesSlot old new k (Some s) → IsNew s.cause old
    → ((i j : ℕ) (x y : Reaction) → slot_at old i ≡ Some x → slot_at old j ≡ Some y → x.cause ≡ y.cause → i ≡ j)
    → (i j : ℕ) (x y : Reaction) → slot_at new i ≡ Some x → slot_at new j ≡ Some y → x.cause ≡ y.cause → i ≡ j
different_opened old new k s c fresh d i j x y hi hj e =
    elim (slot_cases old new k (Some s) c i) [
      | inl p ↦
          elim (slot_cases old new k (Some s) c j) [
            | inl q ↦ p.0 ∙ sym q.0
            | inr q ↦ (let own : s ≡ x = cc (p.1, hi) in absurd (fresh j y (sym q.1 ∙ hj) (sym e ∙ sym (ap (λ (r : Reaction). r.cause) own))))
          ]
      | inr p ↦
          elim (slot_cases old new k (Some s) c j) [
            | inl q ↦ (let own : s ≡ y = cc (q.1, hj) in absurd (fresh i x (sym p.1 ∙ hi) (e ∙ sym (ap (λ (r : Reaction). r.cause) own))))
            | inr q ↦ d i j x y (sym p.1 ∙ hi) (sym q.1 ∙ hj) e
          ]
    ]

-- ---- a reaction tells its pending tickets

-- each reaction counts its tickets
abbrev pub AllCounted : List (Option Reaction) → List Ticket → Type 0
AllCounted slots ts = (k : ℕ) (r : Reaction) → slot_at slots k ≡ Some r → r.pending ≡ tickets_for k ts

counted_first : (old new : List (Option Reaction)) (t : Ticket) (ts : List Ticket) (r s : Reaction) → ChangesSlot old new t.slot (Some s) → slot_at old t.slot ≡ Some r → s.pending + 1 ≡ r.pending → AllCounted old (t ∷ ts) → AllCounted new ts
counted_first old new t ts r s c was less h j x e =
    elim (slot_cases old new t.slot (Some s) c j) [
      | inl p ↦ (
          let q : s ≡ x = cc (p.1, e) in
          let a = ap (λ (y : Reaction). y.pending) q in
          let b = ap (λ i. tickets_for i ts) p.0 in
          omega (arith, a, b, less, h t.slot r was, for_own t.slot t ts refl)
          )
      | inr p ↦ h j x (sym p.1 ∙ e) ∙ for_other j t ts (λ q. p.0 (sym q))
    ]

counted_last : (old new : List (Option Reaction)) (t : Ticket) (ts : List Ticket) (s : Reaction) → ChangesSlot old new t.slot (Some s) → s.pending ≡ tickets_for t.slot ts + 1 → AllCounted old ts → AllCounted new (ts ++ t ∷ [])
counted_last old new t ts s c more h j x e =
    elim (slot_cases old new t.slot (Some s) c j) [
      | inl p ↦ (
          let q : s ≡ x = cc (p.1, e) in
          let a = ap (λ (y : Reaction). y.pending) q in
          let b = ap (λ i. tickets_for i (ts ++ t ∷ [])) p.0 in
          omega (arith, a, b, more, last_own t.slot t ts refl)
          )
      | inr p ↦ h j x (sym p.1 ∙ e) ∙ sym (last_other j t ts (λ q. p.0 (sym q)))
    ]

counted_stays : (old new : List (Option Reaction)) (k : ℕ) (ts : List Ticket) (r s : Reaction) → ChangesSlot old new k (Some s) → slot_at old k ≡ Some r → s.pending ≡ r.pending → AllCounted old ts → AllCounted new ts
counted_stays old new k ts r s c was same h j x e =
    elim (slot_cases old new k (Some s) c j) [
      | inl p ↦ (
          let q : s ≡ x = cc (p.1, e) in
          let a = ap (λ (y : Reaction). y.pending) q in
          let b = ap (λ i. tickets_for i ts) p.0 in
          omega (arith, a, b, same, h k r was)
          )
      | inr p ↦ h j x (sym p.1 ∙ e)
    ]

-- what a slot holds after another was freed, it held before
pub before_freed : (old new : List (Option Reaction)) (k : ℕ) → ChangesSlot old new k None → (j : ℕ) (x : Reaction) → slot_at new j ≡ Some x → slot_at old j ≡ Some x
before_freed old new k c j x e =
    elim (slot_cases old new k None c j) [
      | inl p ↦ absurd (cc (p.1, e))
      | inr p ↦ sym p.1 ∙ e
    ]

-- ---- the calls

pub opens_keeps : (old : Agenda) (cause : ℕ) (opening : Point) (places : ℕ) (values : ArrayVec ℤ) (new : Agenda) → IsAgenda old → length old.tickets < old.room → all_places old.slots + places ≤ old.room → IsNew cause old.slots → Opens old cause opening places values new → IsAgenda new
opens_keeps old cause opening places values new h room fits fresh o =
    let t : Ticket = record { slot = o.slot; point = opening; values = values } in
    let s : Reaction = record { cause = cause; opening = opening; places = places; pending = 1; steps = 0 } in
    let z = for_none old.slots o.slot o.was_free old.tickets h.open_slots in
    let all : AllOpen new.slots (old.tickets ++ t ∷ []) = all_last new.slots old.tickets t (all_stay old.slots new.slots o.slot s o.slots old.tickets h.open_slots) (ap is_some o.slots.changed) in
    let counts : AllCounted new.slots (old.tickets ++ t ∷ []) = counted_last old.slots new.slots t old.tickets s o.slots (omega (arith, z)) h.counted in
    let free : places_of (slot_at old.slots o.slot) ≡ 0 = ap places_of o.was_free in
    record {
      few = omega (arith, room, o.room, ap length o.tickets, length-append old.tickets (t ∷ []));
      open_slots = subst (AllOpen new.slots) (sym o.tickets) all;
      counted = subst (AllCounted new.slots) (sym o.tickets) counts;
      different = different_opened old.slots new.slots o.slot s o.slots fresh h.different;
      credit = omega (arith, fits, o.room, free, places_changed old.slots new.slots o.slot (Some s) o.slots);
    }

pub takes_keeps : (old : Agenda) (first : Ticket) (new : Agenda) → IsAgenda old → Takes old first new → IsAgenda new
takes_keeps old first new h t =
    let s : Reaction = record t.reaction { pending = t.reaction.pending - 1 } in
    record {
      few = omega (arith, h.few, t.room, ap length t.tickets);
      open_slots = all_stay old.slots new.slots first.slot s t.slots new.tickets (subst (AllOpen old.slots) t.tickets h.open_slots).1;
      counted = counted_first old.slots new.slots first new.tickets t.reaction s t.slots t.was (omega (arith, t.counted)) (subst (AllCounted old.slots) t.tickets h.counted);
      different = different_stays old.slots new.slots first.slot t.reaction s t.slots t.was refl h.different;
      credit = omega (arith, h.credit, t.room, places_stay old.slots new.slots first.slot t.reaction s t.slots t.was refl);
    }

pub puts_keeps : (old : Agenda) (slot : ℕ) (point : Point) (new : Agenda) → IsAgenda old → length old.tickets < old.room → Puts old slot point new → IsAgenda new
puts_keeps old slot point new h room p =
    let t : Ticket = record { slot = slot; point = point; values = record { items = [] } } in
    let s : Reaction = record p.reaction { pending = p.reaction.pending + 1 } in
    let all : AllOpen new.slots (old.tickets ++ t ∷ []) = all_last new.slots old.tickets t (all_stay old.slots new.slots slot s p.slots old.tickets h.open_slots) (ap is_some p.slots.changed) in
    let counts : AllCounted new.slots (old.tickets ++ t ∷ []) = counted_last old.slots new.slots t old.tickets s p.slots (omega (arith, h.counted slot p.reaction p.was)) h.counted in
    record {
      few = omega (arith, room, p.room, ap length p.tickets, length-append old.tickets (t ∷ []));
      open_slots = subst (AllOpen new.slots) (sym p.tickets) all;
      counted = subst (AllCounted new.slots) (sym p.tickets) counts;
      different = different_stays old.slots new.slots slot p.reaction s p.slots p.was refl h.different;
      credit = omega (arith, h.credit, p.room, places_stay old.slots new.slots slot p.reaction s p.slots p.was refl);
    }

-- a reaction goes on with more steps
pub goes_on_keeps : (old new : Agenda) (slot : ℕ) (r s : Reaction) → IsAgenda old → slot_at old.slots slot ≡ Some r → s.cause ≡ r.cause → s.places ≡ r.places → s.pending ≡ r.pending → ChangesSlot old.slots new.slots slot (Some s) → new.tickets ≡ old.tickets → new.room ≡ old.room → IsAgenda new
goes_on_keeps old new slot r s h was cause places pending c tickets room =
    record {
      few = omega (arith, h.few, room, ap length tickets);
      open_slots = subst (AllOpen new.slots) (sym tickets) (all_stay old.slots new.slots slot s c old.tickets h.open_slots);
      counted = subst (AllCounted new.slots) (sym tickets) (counted_stays old.slots new.slots slot old.tickets r s c was pending h.counted);
      different = different_stays old.slots new.slots slot r s c was cause h.different;
      credit = omega (arith, h.credit, room, places_stay old.slots new.slots slot r s c was places);
    }

-- a reaction without pending tickets ends
pub ends_keeps : (old new : Agenda) (slot : ℕ) (r : Reaction) → IsAgenda old → slot_at old.slots slot ≡ Some r → r.pending ≡ 0 → ChangesSlot old.slots new.slots slot None → new.tickets ≡ old.tickets → new.room ≡ old.room → IsAgenda new
ends_keeps old new slot r h was none c tickets room =
    let z : tickets_for slot old.tickets ≡ 0 = sym (h.counted slot r was) ∙ none in
    record {
      few = omega (arith, h.few, room, ap length tickets);
      open_slots = subst (AllOpen new.slots) (sym tickets) (all_without old.slots new.slots slot c old.tickets z h.open_slots);
      counted = subst (AllCounted new.slots) (sym tickets) (λ j x e. h.counted j x (before_freed old.slots new.slots slot c j x e));
      different = λ i j x y hi hj e. h.different i j x y (before_freed old.slots new.slots slot c i x hi) (before_freed old.slots new.slots slot c j y hj) e;
      credit = omega (arith, h.credit, room, places_changed old.slots new.slots slot None c);
    }

-- ---- how many tickets of a reaction are pending

-- the first ticket's reaction has a pending ticket
pub first_pending : (a : Agenda) (t : Ticket) (ts : List Ticket) (r : Reaction) → IsAgenda a → a.tickets ≡ t ∷ ts → slot_at a.slots t.slot ≡ Some r → 1 ≤ r.pending
first_pending a t ts r h e was = omega (arith, h.counted t.slot r was, ap (tickets_for t.slot) e, for_own t.slot t ts refl)

-- no reaction has more than all
pub pending_few : (a : Agenda) (k : ℕ) (r : Reaction) → IsAgenda a → slot_at a.slots k ≡ Some r → r.pending ≤ length a.tickets
pending_few a k r h was = omega (arith, h.counted k r was, count_by-le-length (is_for k) a.tickets)

-- ---- the places that all reactions take

pub opens_places : (old new : Agenda) (cause : ℕ) (opening : Point) (places : ℕ) (values : ArrayVec ℤ) → Opens old cause opening places values new → all_places new.slots ≡ all_places old.slots + places
opens_places old new cause opening places values o =
    let free : places_of (slot_at old.slots o.slot) ≡ 0 = ap places_of o.was_free in
    omega (arith, free, places_changed old.slots new.slots o.slot _ o.slots)

pub takes_places : (old new : Agenda) (first : Ticket) → Takes old first new → all_places new.slots ≡ all_places old.slots
takes_places old new first t = places_stay old.slots new.slots first.slot t.reaction _ t.slots t.was refl

pub puts_places : (old new : Agenda) (slot : ℕ) (point : Point) → Puts old slot point new → all_places new.slots ≡ all_places old.slots
puts_places old new slot point p = places_stay old.slots new.slots slot p.reaction _ p.slots p.was refl

pub puts_all_places : (old new : Agenda) (slot : ℕ) (points : List Point) → PutsAll old slot points new → all_places new.slots ≡ all_places old.slots
puts_all_places old new slot points p = places_stay old.slots new.slots slot p.reaction _ p.slots p.was refl

pub settles_places : (old new : Agenda) (slot steps : ℕ) (ended : Option Reaction) → Settles old slot steps ended new → all_places new.slots + places_of ended ≡ all_places old.slots
settles_places old new slot steps ended s =
    let r = s.reaction in
    let more : Reaction = record r { steps = r.steps + steps } in
    let told = ap places_of s.ended_is in
    let held : places_of (slot_at old.slots slot) ≡ r.places = ap places_of s.was in
    let change = places_changed old.slots new.slots slot _ s.slots in
    let both : places_of (cond (eqb r.pending 0) None (Some more)) + places_of (cond (eqb r.pending 0) (Some more) None) ≡ r.places = split (eqb r.pending 0) more in
    omega (arith, told, held, change, both)
  where
    split : (b : Bool) (x : Reaction) → places_of (cond b None (Some x)) + places_of (cond b (Some x) None) ≡ x.places
    split true x = omega arith
    split false x = omega arith
