-- How a queue is kept: a ring of tickets, a slab of reactions, and a running sum of their places.
use Rattle.std.specs.Prelude.{ℕ, ◌≡◌, ◌<◌, ◌^◌}
use Rattle.circular_buffer.specs.Buffer.{Buffer}
use Rattle.slab.specs.Slab.{Slab}
use Rattle.fb_sched.specs.declared.ticket.Ticket.{Ticket}
use Rattle.fb_sched.specs.declared.reaction.Reaction.{Reaction}
use Rattle.fb_sched.specs.Agenda.{Agenda, IsAgenda, all_places}

-- what a ring and a slab hold
abbrev pub agenda_of : Buffer Ticket → Slab Reaction → Agenda
agenda_of ring reactions = record { tickets = ring.items; slots = reactions.slots; room = ring.capacity }

-- what is true of the fields of every queue
pub record IsKept (ring : Buffer Ticket) (reactions : Slab Reaction) (used : ℕ) : Type 0 where
  pub agenda : IsAgenda (agenda_of ring reactions)
  pub used_is : used ≡ all_places reactions.slots
  -- there is room for a reaction for each ticket that there may be, and that room is never changed
  pub capacity : reactions.capacity ≡ ring.capacity
  -- the room is a length
  pub fits : ring.capacity < 2 ^ 64
