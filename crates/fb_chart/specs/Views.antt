-- What a block of tables is in the book.
use Rattle.std.specs.Prelude.{ℕ, List, [], map, string_bytes, None, Some, slice_get}
use Rattle.fb_model.specs.Names.{Name}
use Rattle.fb_model.specs.Services.{service_event_outputs}
use Rattle.fb_model.specs.Wires.{Kind, Charted, Serviced}
use Rattle.fb_model.specs.Certificates.{event_names as event_names_of}
use Rattle.fb_types_blocks.specs.Views.{block_of}
use Rattle.fb_types_services.specs.Views.{service_of}
use Rattle.fb_chart.specs.declared.table.Event.{Event}
use Rattle.fb_chart.specs.declared.table.Output.{Output}
use Rattle.fb_chart.specs.declared.table.Take.{Take}
use Rattle.fb_chart.specs.declared.table.Give.{Give}
use Rattle.fb_chart.specs.declared.table.Body.{Body}
use Rattle.fb_chart.specs.declared.table.Body.TheVariants as b
use Rattle.fb_chart.specs.declared.table.Block.{Block}

-- the name of a number
abbrev pub named : List Name → ℕ → Name
named names n = elim (slice_get names n) [ None ↦ [] | Some x ↦ x ]

abbrev pub event_names : Block → List Name
event_names x = map (λ e. string_bytes e.name) x.events.items

abbrev pub names_of : List Output → List Name
names_of os = map (λ o. string_bytes o.name) os

abbrev pub output_names : Block → List Name
output_names x = names_of x.outputs.items

-- the data inputs that an event takes, and the data outputs that an output gives
abbrev pub taken_by : Event → List Name
taken_by e = map (λ (t : Take). string_bytes t.input) e.takes.items

abbrev pub given_names : List Give → List Name
given_names gs = map (λ g. string_bytes g.output) gs

abbrev pub given_by : Output → List Name
given_by o = given_names o.gives.items

abbrev pub body_kind : Body → Kind
body_kind (b.Chart c) = Charted (block_of c.block.value)
body_kind (b.Served s) = Serviced (service_of s)

abbrev pub kind_of : Block → Kind
kind_of x = body_kind x.body

-- the event outputs of a leaf, in the order of its type
abbrev pub outputs_of : Kind → List Name
outputs_of (Charted block) = event_names_of block.event_outputs
outputs_of (Serviced service) = service_event_outputs service
