-- The arrival that opened a cause, by numbers.
use Rattle.std.specs.Prelude.{ℕ, ◌≡◌, List, Option, None, Some, slice_get}
use Rattle.fb_chart.specs.declared.table.Point.{Point}
use Rattle.fb_chart.specs.declared.table.Block.{Block}
use Rattle.fb_chart.specs.declared.table.Event.{Event}
use Rattle.fb_sched.specs.declared.reaction.Reaction.{Reaction}
use Rattle.fb_sched.specs.Agenda.{Agenda, IsNew, IsReactionOf}
use Rattle.fb_device_state.specs.Numbers.{event_at, steps_in}
use Rattle.fb_device.specs.declared.answer.Opening.{Opening}

-- the steps of the FAR row of an event
abbrev pub far_in : Option Event → Option ℕ
far_in None = None
far_in (Some e) = e.far

abbrev pub opening_at : List Block → Point → Opening
opening_at blocks p = record { block = p.block; event = p.event; weight = steps_in (event_at blocks p); far = far_in (event_at blocks p) }

-- the cause is open in one of these queues with this opening, or in none
abbrev pub IsOpeningIn : List Block → List Agenda → ℕ → Option Opening → Type 0
IsOpeningIn blocks queues cause None = (q : ℕ) (a : Agenda) → slice_get queues q ≡ Some a → IsNew cause a.slots
IsOpeningIn blocks queues cause (Some o) = (q : ℕ) × (a : Agenda) × (r : Reaction) × (slice_get queues q ≡ Some a) × IsReactionOf cause a.slots r × (o ≡ opening_at blocks r.opening)
