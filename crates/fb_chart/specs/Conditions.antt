-- What a leaf remembers from one dispatch to the next, by numbers and in the book's terms.
-- IEC 61499-1 edition 2, 5.2.2 (execution control charts), 6.1 (services); this project's profile.
use Rattle.std.specs.Prelude.{List, []}
use Rattle.fb_model.specs.Wires.{Kind, Charted, Serviced}
use Rattle.fb_model.specs.Store as book
use Rattle.fb_model.specs.Store.{AtState, Plain, LeafState}
use Rattle.fb_model.specs.Certificates.{names}
use Rattle.st_exec.specs.Cells.{Cell}
use Rattle.fb_chart.specs.Views.{named}
use Rattle.fb_chart.specs.Charting.{IsStateNumber, cells_of}
use Rattle.fb_chart.specs.Responses.{condition_of}
use Rattle.fb_chart.specs.declared.memory.Condition.{Condition}
use Rattle.fb_chart.specs.declared.memory.Condition.TheVariants as c

-- the state of this number of a chart, or what a service remembers
abbrev pub condition_at : Kind → Condition → book.Condition
condition_at (Charted block) (c.State n) = AtState (named (names block.states) n)
condition_at (Charted block) (c.Service standing) = AtState []
condition_at (Serviced service) (c.State n) = Plain
condition_at (Serviced service) (c.Service standing) = condition_of standing

-- a chart is in a state of its own, and a service remembers what services do
abbrev pub IsConditionOf : Kind → Condition → Type 0
IsConditionOf (Charted block) (c.State n) = IsStateNumber n block
IsConditionOf (Charted block) (c.Service standing) = ⊥
IsConditionOf (Serviced service) (c.State n) = ⊥
IsConditionOf (Serviced service) (c.Service standing) = Unit {0}

-- a leaf with these working values and issued values, and what it remembers
abbrev pub leaf_state : Kind → List Cell → List Cell → Condition → LeafState
leaf_state kind own issued c = record { cells = cells_of own issued; condition = condition_at kind c }
