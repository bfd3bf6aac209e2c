-- What a contract sees of a queue: its tickets, and the slots of the causes that have not ended.
-- IEC 61499-1 edition 2, 4.5.3 and 5.2.2 (event propagation); causes, credit and depth are this project's profile.
use Rattle.std.specs.Prelude.{ℕ, ◌≡◌, ◌≢◌, ◌≤◌, ◌-◌, ◌==◌, Bool, List, length, sum_by, count_by, Option, Some, None, is_some, IsSome, slice_get, slice_index_or}
use Rattle.std.specs.List.{AllByRecursion}
use Rattle.fb_sched.specs.declared.ticket.Ticket.{Ticket}
use Rattle.fb_sched.specs.declared.reaction.Reaction.{Reaction}

-- the pending tickets, first to last, what each slot from 0 on holds, and the most tickets and places
pub record Agenda : Type 0 where
  pub tickets : List Ticket
  pub slots : List (Option Reaction)
  pub room : ℕ

-- ---- slots

-- what a slot holds
abbrev pub slot_at : List (Option Reaction) → ℕ → Option Reaction
slot_at slots slot = slice_index_or slots slot None

-- a slot holds a reaction
abbrev pub IsOpen : List (Option Reaction) → ℕ → Type 0
IsOpen slots slot = IsSome (slot_at slots slot)

-- no slot has a reaction of the cause
abbrev pub IsNew : ℕ → List (Option Reaction) → Type 0
IsNew cause slots = (slot : ℕ) (r : Reaction) → slot_at slots slot ≡ Some r → r.cause ≢ cause

-- a slot holds this reaction, and it is of the cause
abbrev pub IsReactionOf : ℕ → List (Option Reaction) → Reaction → Type 0
IsReactionOf cause slots r = (slot : ℕ) × (slot_at slots slot ≡ Some r) × (r.cause ≡ cause)

-- the cause of a ticket, by what the slots hold
abbrev pub cause_in : List (Option Reaction) → Ticket → ℕ
cause_in slots t = elim (slot_at slots t.slot) [ None ↦ 0 | Some r ↦ r.cause ]

-- from the first ticket on whose cause is not smaller than this one, causes do not fall: so it is where a cause is newer than all that was pending before it
abbrev pub Rises : ℕ → List (Option Reaction) → List Ticket → Type 0
Rises cause slots tickets =
    (j k : ℕ) (t u : Ticket) → j ≤ k → slice_get tickets j ≡ Some t → slice_get tickets k ≡ Some u → cause ≤ cause_in slots t → cause_in slots t ≤ cause_in slots u

-- no ticket is of the cause
abbrev pub HasNone : ℕ → List (Option Reaction) → List Ticket → Type 0
HasNone cause slots tickets = (j : ℕ) (t : Ticket) → slice_get tickets j ≡ Some t → cause_in slots t ≢ cause

-- how many slots hold a reaction
abbrev pub reactions_in : List (Option Reaction) → ℕ
reactions_in slots = count_by is_some slots

-- the places that a slot takes
abbrev pub places_of : Option Reaction → ℕ
places_of None = 0
places_of (Some r) = r.places

-- the places that all reactions take
abbrev pub all_places : List (Option Reaction) → ℕ
all_places slots = sum_by places_of slots

-- ---- tickets

-- a ticket is for this slot
abbrev pub is_for : ℕ → Ticket → Bool
is_for slot t = t.slot == slot

-- how many tickets are for a slot
abbrev pub tickets_for : ℕ → List Ticket → ℕ
tickets_for slot tickets = count_by (is_for slot) tickets

-- ---- the whole

-- what is true of every queue
pub record IsAgenda (a : Agenda) : Type 0 where
  -- there are no more tickets than room
  pub few : length a.tickets ≤ a.room
  -- each ticket's slot holds a reaction
  pub open_slots : AllByRecursion (λ (t : Ticket). IsOpen a.slots t.slot) a.tickets
  -- a reaction tells how many of its tickets are pending
  pub counted : (slot : ℕ) (r : Reaction) → slot_at a.slots slot ≡ Some r → r.pending ≡ tickets_for slot a.tickets
  -- the causes of different slots differ
  pub different : (j k : ℕ) (r s : Reaction) → slot_at a.slots j ≡ Some r → slot_at a.slots k ≡ Some s → r.cause ≡ s.cause → j ≡ k
  -- all reactions together fit into the room
  pub credit : all_places a.slots ≤ a.room
