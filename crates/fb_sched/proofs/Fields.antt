-- What each call does to the ring, the slab and the sum, as a change of what a contract sees.
use Rattle.std.proofs.Common.{◌≡◌, ℕ, ◌+◌, ◌-◌, ◌<◌, ◌≤◌, ◌^◌, ℤ, List, [], ◌∷◌, ◌++◌, length, Option, Some, None, is_some, refl, sym, ap, ◌∙◌, subst, arith}
use Rattle.arrayvec.specs.ArrayVec.{ArrayVec}
use Rattle.circular_buffer.specs.Buffer.{Buffer, buffer}
use Rattle.slab.specs.Slab.{Slab, get, Updates, with_value}
use Rattle.slab.proofs.SlabLemmas.{Updates-with_value}
use Rattle.fb_chart.specs.declared.table.Point.{Point}
use Rattle.fb_sched.specs.declared.ticket.Ticket.{Ticket}
use Rattle.fb_sched.specs.declared.reaction.Reaction.{Reaction}
use Rattle.fb_sched.specs.Agenda.{IsNew, all_places, places_of, slot_at}
use Rattle.fb_sched.specs.Changes.{ChangesSlot, Takes, with_pending, opened_reaction, arrival_ticket}
use Rattle.fb_sched.specs.Keeping.{agenda_of, IsKept}
use Rattle.fb_sched.proofs.Slots.{places_changed}
use Rattle.fb_sched.proofs.Kept.{opens_keeps, takes_keeps, puts_keeps, ends_keeps, goes_on_keeps, places_stay, first_pending, pending_few}

slot_of_updates : (old new : Slab Reaction) (k : ℕ) (o : Option Reaction) → Updates old new k o → ChangesSlot old.slots new.slots k o
slot_of_updates old new k o u = record { changed = u.changed; others = u.others }

-- a reaction is written where one was
pub rewritten : (old new : Slab Reaction) (k : ℕ) (r s : Reaction) → get old k ≡ Some r → new ≡ with_value old k s → ChangesSlot old.slots new.slots k (Some s)
rewritten old new k r s was e = slot_of_updates old new k (Some s) (subst (λ n. Updates old n k (Some s)) (sym e) (Updates-with_value old k s (ap is_some was)))

cap_stays : (old new : Slab Reaction) (k : ℕ) (s : Reaction) → new ≡ with_value old k s → new.capacity ≡ old.capacity
cap_stays old new k s e = ap (λ (x : Slab Reaction). x.capacity) e

-- ---- take

pub take_counted : (ring : Buffer Ticket) (slab : Slab Reaction) (used : ℕ) (t : Ticket) (ts : List Ticket) (r : Reaction) → IsKept ring slab used → ring.items ≡ t ∷ ts → get slab t.slot ≡ Some r → 1 ≤ r.pending
take_counted ring slab used t ts r h e was = first_pending (agenda_of ring slab) t ts r h.agenda e was

pub take_takes : (ring ring' : Buffer Ticket) (slab slab' : Slab Reaction) (used : ℕ) (t : Ticket) (r : Reaction) → IsKept ring slab used → ring.items ≡ t ∷ ring'.items → ring'.capacity ≡ ring.capacity → get slab t.slot ≡ Some r → slab' ≡ with_value slab t.slot (with_pending r (r.pending - 1))
    → Takes (agenda_of ring slab) t (agenda_of ring' slab')
take_takes ring ring' slab slab' used t r h e p was w =
    record {
      reaction = r;
      was = was;
      counted = omega (arith, take_counted ring slab used t ring'.items r h e was);
      tickets = e;
      slots = rewritten slab slab' t.slot r (with_pending r (r.pending - 1)) was w;
      room = p;
    }

pub take_keeps : (ring ring' : Buffer Ticket) (slab slab' : Slab Reaction) (used : ℕ) (t : Ticket) (r : Reaction) → IsKept ring slab used → ring.items ≡ t ∷ ring'.items → ring'.capacity ≡ ring.capacity → get slab t.slot ≡ Some r → slab' ≡ with_value slab t.slot (with_pending r (r.pending - 1))
    → IsKept ring' slab' used
take_keeps ring ring' slab slab' used t r h e p was w =
    let takes = take_takes ring ring' slab slab' used t r h e p was w in
    record {
      agenda = takes_keeps (agenda_of ring slab) t (agenda_of ring' slab') h.agenda takes;
      used_is = omega (arith, h.used_is, places_stay slab.slots slab'.slots t.slot r (with_pending r (r.pending - 1)) (rewritten slab slab' t.slot r (with_pending r (r.pending - 1)) was w) was refl);
      capacity = omega (arith, h.capacity, takes.room, cap_stays slab slab' t.slot (with_pending r (r.pending - 1)) w);
      fits = omega (arith, h.fits, takes.room);
    }

-- ---- put

pub put_fits : (ring : Buffer Ticket) (slab : Slab Reaction) (used slot : ℕ) (r : Reaction) → IsKept ring slab used → length ring.items < ring.capacity → get slab slot ≡ Some r → r.pending + 1 < 2 ^ 64
put_fits ring slab used slot r h room was = omega (arith, h.fits, room, pending_few (agenda_of ring slab) slot r h.agenda was)

pub put_keeps : (ring ring' : Buffer Ticket) (slab slab' : Slab Reaction) (used : ℕ) (t : Ticket) (r : Reaction) → IsKept ring slab used → length ring.items < ring.capacity → t.values ≡ record { items = [] } → ring' ≡ buffer (ring.items ++ t ∷ []) ring.capacity → get slab t.slot ≡ Some r → slab' ≡ with_value slab t.slot (with_pending r (r.pending + 1))
    → IsKept ring' slab' used
put_keeps ring ring' slab slab' used t r h room none p was w =
    let s = with_pending r (r.pending + 1) in
    let c = rewritten slab slab' t.slot r s was w in
    let cap = ap (λ (b : Buffer Ticket). b.capacity) p in
    let bare : t ≡ record { slot = t.slot; point = t.point; values = record { items = [] } } = ap (λ v. record { slot = t.slot; point = t.point; values = v }) none in
    record {
      agenda = puts_keeps (agenda_of ring slab) t.slot t.point (agenda_of ring' slab') h.agenda room (record { reaction = r; was = was; tickets = ap (λ (b : Buffer Ticket). b.items) p ∙ ap (λ u. ring.items ++ u ∷ []) bare; slots = c; room = cap });
      used_is = omega (arith, h.used_is, places_stay slab.slots slab'.slots t.slot r s c was refl);
      capacity = omega (arith, h.capacity, cap, cap_stays slab slab' t.slot s w);
      fits = omega (arith, h.fits, cap);
    }

-- ---- open

pub open_keeps : (ring ring' : Buffer Ticket) (slab slab' : Slab Reaction) (used slot cause : ℕ) (opening : Point) (places : ℕ) (values : ArrayVec ℤ) → IsKept ring slab used → length ring.items < ring.capacity → all_places slab.slots + places ≤ ring.capacity → IsNew cause slab.slots
    → ring' ≡ buffer (ring.items ++ arrival_ticket slot opening values ∷ []) ring.capacity → get slab slot ≡ None → Updates slab slab' slot (Some (opened_reaction cause opening places)) → slab'.capacity ≡ slab.capacity → IsKept ring' slab' (used + places)
open_keeps ring ring' slab slab' used slot cause opening places values h room fits fresh p was u more =
    let s = opened_reaction cause opening places in
    let c = slot_of_updates slab slab' slot (Some s) u in
    let cap = ap (λ (b : Buffer Ticket). b.capacity) p in
    let free : places_of (slot_at slab.slots slot) ≡ 0 = ap places_of was in
    record {
      agenda = opens_keeps (agenda_of ring slab) cause opening places values (agenda_of ring' slab') h.agenda room fits fresh (record { slot = slot; was_free = was; tickets = ap (λ (b : Buffer Ticket). b.items) p; slots = c; room = cap });
      used_is = omega (arith, h.used_is, free, places_changed slab.slots slab'.slots slot (Some s) c);
      capacity = omega (arith, h.capacity, cap, more);
      fits = omega (arith, h.fits, cap);
    }

-- ---- settle

pub goes_on : (ring : Buffer Ticket) (slab slab' : Slab Reaction) (used slot : ℕ) (r s : Reaction) → IsKept ring slab used → get slab slot ≡ Some r → s.cause ≡ r.cause → s.places ≡ r.places → s.pending ≡ r.pending → slab' ≡ with_value slab slot s → IsKept ring slab' used
goes_on ring slab slab' used slot r s h was cause places pending w =
    let c = rewritten slab slab' slot r s was w in
    record {
      agenda = goes_on_keeps (agenda_of ring slab) (agenda_of ring slab') slot r s h.agenda was cause places pending c refl refl;
      used_is = omega (arith, h.used_is, places_stay slab.slots slab'.slots slot r s c was places);
      capacity = omega (arith, h.capacity, cap_stays slab slab' slot s w);
      fits = h.fits;
    }

pub ends : (ring : Buffer Ticket) (slab slab' : Slab Reaction) (used slot : ℕ) (r : Reaction) → IsKept ring slab used → get slab slot ≡ Some r → r.pending ≡ 0 → Updates slab slab' slot None → slab'.capacity ≡ slab.capacity → IsKept ring slab' (used - r.places)
ends ring slab slab' used slot r h was none u more =
    let c = slot_of_updates slab slab' slot None u in
    let held : places_of (slot_at slab.slots slot) ≡ r.places = ap places_of was in
    record {
      agenda = ends_keeps (agenda_of ring slab) (agenda_of ring slab') slot r h.agenda was none c refl refl;
      used_is = omega (arith, h.used_is, held, places_changed slab.slots slab'.slots slot None c);
      capacity = omega (arith, h.capacity, more);
      fits = h.fits;
    }

-- values of which there are none
pub no_values : (v : ArrayVec ℤ) → v.items ≡ [] → v ≡ record { items = [] }
no_values v e = ap (λ xs. record { items = xs }) e
