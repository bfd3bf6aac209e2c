-- What each call changes.
-- IEC 61499-1 edition 2, 4.5.3 and 5.2.2 (event propagation); causes and credit are this project's profile.
use Rattle.std.specs.Prelude.{ℕ, ◌≡◌, ◌≢◌, ◌+◌, ◌-◌, ◌<◌, ◌^◌, ◌==◌, ℤ, List, [], ◌∷◌, ◌++◌, map, length, Option, Some, None, if◌then◌else◌}
use Rattle.arrayvec.specs.ArrayVec.{ArrayVec}
use Rattle.fb_chart.specs.declared.table.Point.{Point}
use Rattle.fb_sched.specs.declared.ticket.Ticket.{Ticket}
use Rattle.fb_sched.specs.declared.reaction.Reaction.{Reaction}
use Rattle.fb_sched.specs.Agenda.{Agenda, slot_at}

-- one slot holds this now, and each other what it held
pub record ChangesSlot (old new : List (Option Reaction)) (slot : ℕ) (now : Option Reaction) : Type 0 where
  pub changed : slot_at new slot ≡ now
  pub others : (other : ℕ) → other ≢ slot → slot_at new other ≡ slot_at old other

-- a reaction with this many pending tickets
abbrev pub with_pending : Reaction → ℕ → Reaction
with_pending r n = record r { pending = n }

-- a reaction with so many steps more
abbrev pub with_more_steps : Reaction → ℕ → Reaction
with_more_steps r steps = record r { steps = r.steps + steps }

-- the reaction of a cause that has just been opened
abbrev pub opened_reaction : ℕ → Point → ℕ → Reaction
opened_reaction cause opening places = record { cause = cause; opening = opening; places = places; pending = 1; steps = 0 }

-- the ticket of an arrival, and one without values
abbrev pub arrival_ticket : ℕ → Point → ArrayVec ℤ → Ticket
arrival_ticket slot opening values = record { slot = slot; point = opening; values = values }

abbrev pub bare_ticket : ℕ → Point → Ticket
bare_ticket slot point = record { slot = slot; point = point; values = record { items = [] } }

-- a cause is opened, in a slot that was free, with the ticket of its arrival
pub record Opens (old : Agenda) (cause : ℕ) (opening : Point) (places : ℕ) (values : ArrayVec ℤ) (new : Agenda) : Type 0 where
  pub slot : ℕ
  pub was_free : slot_at old.slots slot ≡ None
  pub tickets : new.tickets ≡ old.tickets ++ arrival_ticket slot opening values ∷ []
  pub slots : ChangesSlot old.slots new.slots slot (Some (opened_reaction cause opening places))
  pub room : new.room ≡ old.room

-- the first ticket is taken, and one ticket less of its reaction is pending
pub record Takes (old : Agenda) (first : Ticket) (new : Agenda) : Type 0 where
  pub reaction : Reaction
  pub was : slot_at old.slots first.slot ≡ Some reaction
  pub counted : 0 < reaction.pending
  pub tickets : old.tickets ≡ first ∷ new.tickets
  pub slots : ChangesSlot old.slots new.slots first.slot (Some (with_pending reaction (reaction.pending - 1)))
  pub room : new.room ≡ old.room

-- a ticket without values is appended, and one ticket more of its reaction is pending
pub record Puts (old : Agenda) (slot : ℕ) (point : Point) (new : Agenda) : Type 0 where
  pub reaction : Reaction
  pub was : slot_at old.slots slot ≡ Some reaction
  pub tickets : new.tickets ≡ old.tickets ++ bare_ticket slot point ∷ []
  pub slots : ChangesSlot old.slots new.slots slot (Some (with_pending reaction (reaction.pending + 1)))
  pub room : new.room ≡ old.room

-- tickets without values are appended, one for each point, and so many more of the reaction are pending
pub record PutsAll (old : Agenda) (slot : ℕ) (points : List Point) (new : Agenda) : Type 0 where
  pub reaction : Reaction
  pub was : slot_at old.slots slot ≡ Some reaction
  pub tickets : new.tickets ≡ old.tickets ++ map (bare_ticket slot) points
  pub slots : ChangesSlot old.slots new.slots slot (Some (with_pending reaction (reaction.pending + length points)))
  pub room : new.room ≡ old.room

-- the slot holds a reaction, and its steps and these can be counted
pub record CanSettle (old : Agenda) (slot steps : ℕ) : Type 0 where
  pub reaction : Reaction
  pub is : slot_at old.slots slot ≡ Some reaction
  pub fits : reaction.steps + steps < 2 ^ 64

-- a reaction with no pending ticket ends, and another goes on, each with these steps more
pub record Settles (old : Agenda) (slot steps : ℕ) (ended : Option Reaction) (new : Agenda) : Type 0 where
  pub reaction : Reaction
  pub was : slot_at old.slots slot ≡ Some reaction
  pub ended_is : ended ≡ (if reaction.pending == 0 then Some (with_more_steps reaction steps) else None)
  pub tickets : new.tickets ≡ old.tickets
  pub slots : ChangesSlot old.slots new.slots slot (if reaction.pending == 0 then None else Some (with_more_steps reaction steps))
  pub room : new.room ≡ old.room
