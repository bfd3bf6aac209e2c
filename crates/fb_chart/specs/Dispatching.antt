-- One dispatch of a block of tables, in the book's terms.
-- IEC 61499-1 edition 2, 5.2.2 (execution control charts), 6.1 (services); this project's profile.
use Rattle.std.specs.Prelude.{ℕ, ℤ, ◌≡◌, ◌≤◌, ◌<◌, ◌++◌, true, List, set, slice_get, length, Option, Some}
use Rattle.std.specs.List.{AllByRecursion}
use Rattle.fb_model.specs.Names.{Name, is_in}
use Rattle.fb_model.specs.Values.{Values}
use Rattle.fb_model.specs.Services.{can_emit}
use Rattle.fb_model.specs.Wires.{Kind, Charted, Serviced}
use Rattle.fb_model.specs.Store.{LeafState}
use Rattle.fb_model.specs.Charts.{dispatched}
use Rattle.fb_model.specs.Serving.{Serves}
use Rattle.fb_model.specs.Ranges.{IsMessage}
use Rattle.fb_model_laws.specs.Leaves.{OnChart, IsClosed}
use Rattle.fb_model_laws.specs.Shaped.{IsShapely}
use Rattle.st_exec.specs.Cells.{Cell, values_of, forms_of}
use Rattle.fb_chart.specs.declared.table.Point.{Point}
use Rattle.fb_chart.specs.declared.table.Event.{Event}
use Rattle.fb_chart.specs.declared.table.Output.{Output}
use Rattle.fb_chart.specs.declared.table.Block.{Block}
use Rattle.fb_chart.specs.Views.{named, event_names, output_names, kind_of}
use Rattle.fb_chart.specs.Tables.{IsTable}
use Rattle.fb_chart.specs.Sending.{Points, sent_to}
use Rattle.fb_chart.specs.Sampling.{AreStores, CanTake, sampled_by}
use Rattle.fb_chart.specs.Charting.{FineFrom, most_steps}
use Rattle.fb_chart.specs.declared.standing.Effect.{Effect}
use Rattle.fb_chart.specs.declared.standing.Ports.{Ports}
use Rattle.fb_chart.specs.Ports.{ServesPorts}
use Rattle.fb_chart.specs.declared.memory.Condition.{Condition}
use Rattle.fb_chart.specs.declared.memory.Memory.{Memory}
use Rattle.fb_chart.specs.Responses.{effect_of}
use Rattle.fb_chart.specs.Serving.{SendsFit}
use Rattle.fb_chart.specs.Conditions.{IsConditionOf, leaf_state}

-- at each moment from the dispatch on nothing of a chart traps, and there is room for what is sent; and there is room for all that a service can send
abbrev pub HasRoom : Kind → List Output → LeafState → Name → ℕ → ℕ → Type 0
HasRoom (Charted block) outputs before event most room = FineFrom block outputs most room (dispatched before event)
HasRoom (Serviced service) outputs before event most room = length (sent_to outputs (can_emit service event)) ≤ room

-- the numbers that a service sends are in their types; a chart sends none
abbrev pub SendsWell : Kind → Values → Type 0
SendsWell (Charted block) own = Unit {0}
SendsWell (Serviced service) own = SendsFit service own

-- a block whose inputs are sampled can run
pub record CanRun (x : Block) (p : Ports) (own issued : List Cell) (c : Condition) (number : ℕ) (values : List ℤ) (most room : ℕ) : Type 0 where
  pub table : IsTable (forms_of own) (forms_of issued) x
  pub ports : ServesPorts (kind_of x) (forms_of own) p
  pub closed : IsClosed (kind_of x)
  pub shaped : OnChart IsShapely (kind_of x)
  pub stores : AreStores (kind_of x) (forms_of own) (forms_of issued)
  pub condition : IsConditionOf (kind_of x) c
  pub event : number < length x.events.items
  pub message : IsMessage (kind_of x) values
  pub few : most ≤ most_steps
  pub sends : SendsWell (kind_of x) (values_of own)
  pub fine : HasRoom (kind_of x) x.outputs.items (leaf_state (kind_of x) own issued c) (named (event_names x) number) most room

-- it has run to its end as the book says, and what its outputs reach was sent
pub record HasRun (x : Block) (event : ℕ) (values : List ℤ) (clock : ℕ) (before after : LeafState) (steps : ℕ) (effect : Option Effect) (old new : Points) : Type 0 where
  pub outs : List Name
  pub served : Serves (kind_of x) clock (named (event_names x) event) values before after steps outs (effect_of effect)
  pub sent : new ≡ old ++ sent_to x.outputs.items outs
  pub known : AllByRecursion (λ (o : Name). is_in o (output_names x) ≡ true) outs

-- ---- over all blocks of a device

-- what stands at the numbers of a point: its block and event, the block's ports and stores, and what it remembers
pub record Stand (blocks : List Block) (ports : List Ports) (m : Memory) (p : Point) : Type 0 where
  pub block : Block
  pub slots : Ports
  pub event : Event
  pub own : List Cell
  pub issued : List Cell
  pub condition : Condition
  pub block_is : slice_get blocks p.block ≡ Some block
  pub slots_is : slice_get ports p.block ≡ Some slots
  pub event_is : slice_get block.events.items p.event ≡ Some event
  pub own_is : slice_get m.own.items p.block ≡ Some own
  pub issued_is : slice_get m.issued.items p.block ≡ Some issued
  pub condition_is : slice_get m.conditions.items p.block ≡ Some condition

-- its inputs can be sampled, and then it can run
pub record CanDispatch (blocks : List Block) (ports : List Ports) (m : Memory) (p : Point) (values : List ℤ) (room : ℕ) : Type 0 where
  pub at : Stand blocks ports m p
  pub takes : AllByRecursion (CanTake m.issued.items (forms_of at.own)) at.event.takes.items
  pub runs : (sampled : List Cell) → forms_of sampled ≡ forms_of at.own → values_of sampled ≡ sampled_by m.issued.items (forms_of at.own) at.event.takes.items (values_of at.own)
      → CanRun at.block at.slots sampled at.issued at.condition p.event values at.event.steps room

-- its inputs were sampled, and it has run
pub record HasDispatched (blocks : List Block) (ports : List Ports) (old : Memory) (p : Point) (values : List ℤ) (clock : ℕ) (new : Memory) (steps : ℕ) (effect : Option Effect) (before after : Points) : Type 0 where
  pub at : Stand blocks ports old p
  pub sampled : List Cell
  pub own : List Cell
  pub issued : List Cell
  pub condition : Condition
  pub values_are : values_of sampled ≡ sampled_by old.issued.items (forms_of at.own) at.event.takes.items (values_of at.own)
  pub has_run : HasRun at.block p.event values clock (leaf_state (kind_of at.block) sampled at.issued at.condition) (leaf_state (kind_of at.block) own issued condition) steps effect before after
  pub condition_fits : IsConditionOf (kind_of at.block) condition
  pub own_forms : forms_of own ≡ forms_of at.own
  pub issued_forms : forms_of issued ≡ forms_of at.issued
  pub own_set : new.own.items ≡ set old.own.items p.block own
  pub issued_set : new.issued.items ≡ set old.issued.items p.block issued
  pub conditions_set : new.conditions.items ≡ set old.conditions.items p.block condition
