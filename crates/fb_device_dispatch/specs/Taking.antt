-- What a dispatch takes from its queue, and what it enters there.
use Rattle.std.specs.Prelude.{ℕ, ◌≡◌, ◌+◌, ◌≤◌, ◌<◌, ◌^◌, List, [], length, set, Option, Some, slice_get}
use Rattle.fb_chart.specs.declared.table.Point.{Point}
use Rattle.fb_sched.specs.declared.ticket.Ticket.{Ticket}
use Rattle.fb_sched.specs.declared.reaction.Reaction.{Reaction}
use Rattle.fb_sched.specs.Agenda.{Agenda, IsAgenda, slot_at}
use Rattle.fb_sched.specs.Changes.{Takes, PutsAll, Settles}

-- the queue of the resource is empty, or there is no such resource; nothing changes
pub record IsIdle (old : List Agenda) (q : ℕ) (new : List Agenda) : Type 0 where
  pub empty : (queue : Agenda) → slice_get old q ≡ Some queue → queue.tickets ≡ []
  pub same : new ≡ old

-- the first entry is taken off its queue
pub record HasTaken (old : List Agenda) (q : ℕ) (first : Ticket) (new : List Agenda) : Type 0 where
  pub was : Agenda
  pub left : Agenda
  pub stands : slice_get old q ≡ Some was
  pub takes : Takes was first left
  pub agenda : IsAgenda left
  pub new_is : new ≡ set old q left

-- the queue has room for these points, and the steps of the open cause and these can be counted
pub record CanEnter (queues : List Agenda) (q : ℕ) (points : List Point) (slot steps : ℕ) : Type 0 where
  pub queue : Agenda
  pub reaction : Reaction
  pub stands : slice_get queues q ≡ Some queue
  pub room : length queue.tickets + length points ≤ queue.room
  pub is : slot_at queue.slots slot ≡ Some reaction
  pub fits : reaction.steps + steps < 2 ^ 64

-- the points are entered, and then the steps are noted, of the reaction that this was
pub record HasEntered (old : List Agenda) (q : ℕ) (points : List Point) (slot steps : ℕ) (reaction : Reaction) (ended : Option Reaction) (new : List Agenda) : Type 0 where
  pub queue : Agenda
  pub mid : Agenda
  pub left : Agenda
  pub stands : slice_get old q ≡ Some queue
  pub puts : PutsAll queue slot points mid
  pub mid_agenda : IsAgenda mid
  pub is : slot_at mid.slots slot ≡ Some reaction
  pub settles : Settles mid slot steps ended left
  pub agenda : IsAgenda left
  pub new_is : new ≡ set old q left
