-- The tickets as entries, also as the book has them, and which causes have one.
-- IEC 61499-1 edition 2, 4.5.3 (event propagation); causes and credit are this project's profile.
use Rattle.std.specs.Prelude.{ℕ, ℤ, ◌≡◌, ◌≢◌, ◌<◌, List, [], map, Option, Some, None}
use Rattle.arrayvec.specs.ArrayVec.{ArrayVec}
use Rattle.fb_model.specs.Names.{Place}
use Rattle.fb_model.specs.Devices as book
use Rattle.fb_model.specs.Devices.{held}
use Rattle.fb_chart.specs.declared.table.Point.{Point}
use Rattle.fb_sched.specs.declared.ticket.Ticket.{Ticket}
use Rattle.fb_sched.specs.declared.reaction.Reaction.{Reaction}
use Rattle.fb_sched.specs.Agenda.{Agenda, slot_at, all_places}

-- ---- tickets as entries

-- a pending entry: its cause, the arrival that opened the cause, the event input that it is for, and the values of an arrival
pub record Entry : Type 0 where
  pub cause : ℕ
  pub opening : Point
  pub point : Point
  pub values : ArrayVec ℤ

-- the entry of a ticket whose slot holds this: a ticket without a reaction would be its own opening
abbrev pub entry_by : Option Reaction → Ticket → Entry
entry_by None t = record { cause = 0; opening = t.point; point = t.point; values = t.values }
entry_by (Some r) t = record { cause = r.cause; opening = r.opening; point = t.point; values = t.values }

-- the pending entries, first to last
abbrev pub entries : Agenda → List Entry
entries a = map (λ t. entry_by (slot_at a.slots t.slot) t) a.tickets

-- the entry of an arrival that opens a cause, and one that a block sends to an event input
abbrev pub arrival_entry : ℕ → Point → ArrayVec ℤ → Entry
arrival_entry cause opening values = record { cause = cause; opening = opening; point = opening; values = values }

abbrev pub sent_entry : Reaction → Point → Entry
sent_entry r point = record { cause = r.cause; opening = r.opening; point = point; values = record { items = [] } }

-- ---- which causes have an entry

-- every open reaction has a pending ticket
abbrev pub AllPending : List (Option Reaction) → Type 0
AllPending slots = (slot : ℕ) (r : Reaction) → slot_at slots slot ≡ Some r → 0 < r.pending

-- every one but that in this slot, whose block runs now, has a pending ticket
abbrev pub OthersPending : ℕ → List (Option Reaction) → Type 0
OthersPending running slots = (slot : ℕ) (r : Reaction) → slot ≢ running → slot_at slots slot ≡ Some r → 0 < r.pending

-- ---- entries of the book, and what they hold

-- an entry of the book, where its points have these places
abbrev pub booked : (Point → Place) → Entry → book.Entry
booked place e = record { cause = e.cause; opening = place e.opening; place = place e.point; values = e.values.items }

-- each reaction takes the places that its opening weighs
abbrev pub Weighs : (Point → ℕ) → List (Option Reaction) → Type 0
Weighs weight slots = (slot : ℕ) (r : Reaction) → slot_at slots slot ≡ Some r → r.places ≡ weight r.opening

-- the book's entries hold the places that all reactions take
abbrev pub HoldsPlaces : (Place → ℕ) → (Point → Place) → Agenda → Type 0
HoldsPlaces weight place a = held weight (map (booked place) (entries a)) ≡ all_places a.slots
