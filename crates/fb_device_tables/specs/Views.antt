-- What the numbers of tables stand for in the book.
use Rattle.std.specs.Prelude.{ℕ, List, [], None, Some, Option, slice_get}
use Rattle.fb_model.specs.Names.{Place, at_place}
use Rattle.fb_model.specs.Wires.{Leaf}
use Rattle.fb_model.specs.Certificates.{events_of}
use Rattle.fb_chart.specs.declared.table.Point.{Point}
use Rattle.fb_chart.specs.Views.{named}

abbrev pub place_in : Option Leaf → ℕ → Place
place_in None event = at_place [] []
place_in (Some leaf) event = at_place leaf.path (named (events_of leaf.kind) event)

-- a point is an event of one of these leaves, by its number
abbrev pub place_at : List Leaf → Point → Place
place_at all p = place_in (slice_get all p.block) p.event
