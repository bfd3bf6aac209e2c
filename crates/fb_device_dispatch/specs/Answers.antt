-- What a dispatch answers, in the book.
use Rattle.std.specs.Prelude.{ℕ, List}
use Rattle.std.specs.Option.{option_map}
use Rattle.fb_model.specs.Wires.{Leaf}
use Rattle.fb_model.specs.Devices as book
use Rattle.fb_sched.specs.declared.reaction.Reaction.{Reaction}
use Rattle.fb_chart.specs.Responses.{effect_of}
use Rattle.fb_device_tables.specs.Views.{place_at}
use Rattle.fb_device_tables.specs.Tables.{IsPoint}
use Rattle.fb_device_dispatch.specs.declared.answer.Ended.{Ended}
use Rattle.fb_device_dispatch.specs.declared.answer.Dispatched.{Dispatched}
use Rattle.fb_device_dispatch.specs.declared.answer.Dispatched.TheVariants.{Idle, Ran}

abbrev pub end_of : Ended → book.Ended
end_of e = record { cause = e.cause; total = e.total; bound = e.bound }

-- the end of a cause, by its reaction and the bound on its steps
abbrev pub end_by : ℕ → Reaction → Ended
end_by bound r = record { cause = r.cause; total = r.steps; bound = bound }

abbrev pub dispatched_of : List Leaf → Dispatched → book.Answer
dispatched_of all Idle = book.Idle
dispatched_of all (Ran r) = book.Ran r.cause (place_at all (record { block = r.block; event = r.event })) r.steps (effect_of r.effect) (option_map end_of r.ended)

-- a dispatch answers the numbers of an event
abbrev pub HasPoint : List Leaf → Dispatched → Type 0
HasPoint all Idle = Unit {0}
HasPoint all (Ran r) = IsPoint all (record { block = r.block; event = r.event })
