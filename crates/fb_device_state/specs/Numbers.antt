-- Events by numbers.
use Rattle.std.specs.Prelude.{ℕ, ◌≡◌, ◌<◌, List, length, Option, None, Some, slice_get}
use Rattle.fb_chart.specs.declared.table.Point.{Point}
use Rattle.fb_chart.specs.declared.table.Event.{Event}
use Rattle.fb_chart.specs.declared.table.Block.{Block}

abbrev pub event_at : List Block → Point → Option Event
event_at blocks p = elim (slice_get blocks p.block) [ None ↦ None | Some x ↦ slice_get x.events.items p.event ]

-- the places and the steps of the WEIGHT row of an event
abbrev pub places_in : Option Event → ℕ
places_in None = 0
places_in (Some e) = e.places

abbrev pub steps_in : Option Event → ℕ
steps_in None = 0
steps_in (Some e) = e.steps

-- a point is an event of a block
abbrev pub IsKnown : List Block → Point → Type 0
IsKnown blocks p = (x : Block) × (slice_get blocks p.block ≡ Some x) × (p.event < length x.events.items)
