-- A chart of tables with its stores, in the course of one dispatch.
-- IEC 61499-1 edition 2, 5.2.2 (execution control charts).
use Rattle.std.specs.Prelude.{ℕ, ◌≡◌, ◌≤◌, ◌<◌, ◌^◌, ◌++◌, Bool, true, false, ◌==◌, List, [], length, string_bytes, Option, None, Some, slice_get}
use Rattle.std.specs.List.{AllByRecursion}
use Rattle.std.specs.Option.{option_map}
use Rattle.fb_model.specs.Names.{Name}
use Rattle.fb_model.specs.Values.{Values}
use Rattle.fb_model.specs.Language.{Algorithm}
use Rattle.fb_model.specs.System as book
use Rattle.fb_model.specs.Typing.{AreDistinct}
use Rattle.fb_model.specs.Wires.{Charted}
use Rattle.fb_model.specs.Store.{Cells, where_in, gives}
use Rattle.fb_model.specs.Certificates.{names, events_of}
use Rattle.fb_model.specs.Charts.{Choice, Cross, Stay, Phase, Waiting, Acting, Settling, Moment, At, Traps, Reaches, Rests, actions_of}
use Rattle.fb_model.specs.Headline.{emitted_of}
use Rattle.fb_model_laws.specs.Leaves.{IsClosedBlock}
use Rattle.fb_model_laws.specs.Shaped.{IsShapely}
use Rattle.fb_types_blocks.specs.Views.{block_of}
use Rattle.st_exec.specs.declared.command.Procedure.{Procedure}
use Rattle.st_exec.specs.CodeViews.{code_commands}
use Rattle.st_exec.specs.Placed.{placed_all}
use Rattle.st_exec.specs.Cells.{Cell, Form, values_of}
use Rattle.st_exec.specs.Runs.{Supports}
use Rattle.fb_chart.specs.declared.table.Output.{Output}
use Rattle.fb_chart.specs.declared.table.Chart.{Chart}
use Rattle.fb_chart.specs.Views.{named, names_of, given_by, outputs_of}
use Rattle.fb_chart.specs.Tables.{IsChart, IsPlacedOutput}
use Rattle.fb_chart.specs.Sending.{Points, sent_to}
use Rattle.fb_chart.specs.Sampling.{AreStores}

-- ---- a chart in the book

abbrev pub block_in : Chart → book.Block
block_in c = block_of c.block.value

abbrev pub states_in : Chart → List Name
states_in c = names (block_in c).states

abbrev pub events_in : Chart → List Name
events_in c = events_of (Charted (block_in c))

abbrev pub outputs_in : Chart → List Name
outputs_in c = outputs_of (Charted (block_in c))

-- what is so of a chart, its outputs and its stores all along
pub record IsReady (c : Chart) (outputs : List Output) (own issued : List Form) : Type 0 where
  pub chart : IsChart own (events_in c) (outputs_in c) (block_in c) c
  pub closed : IsClosedBlock (block_in c)
  pub shaped : IsShapely (block_in c)
  pub stores : AreStores (Charted (block_in c)) own issued
  pub events_apart : AreDistinct (events_in c)
  pub outputs_apart : AreDistinct (outputs_in c)
  pub names : names_of outputs ≡ outputs_in c
  pub gives : AllByRecursion (λ (o : Output). given_by o ≡ gives (Charted (block_in c)) (string_bytes o.name)) outputs
  pub placed : AllByRecursion (IsPlacedOutput own issued) outputs

-- the number of a state, or the first
abbrev pub IsStateNumber : ℕ → book.Block → Type 0
IsStateNumber n block = 0 < length block.states → n < length block.states

-- ---- numbers of events and states

abbrev pub is_open_to : Option ℕ → Option ℕ → Bool
is_open_to None event = true
is_open_to (Some named) None = false
is_open_to (Some named) (Some event) = event == named

-- a crossing by the number of the state that it enters
abbrev pub chosen : List Name → Option ℕ → Choice
chosen states None = Stay
chosen states (Some u) = Cross (named states u)

-- while an event waits, and after it is gone
abbrev pub phase_of : List Name → Option ℕ → Phase
phase_of events None = Settling
phase_of events (Some e) = Waiting (named events e)

-- ---- algorithms by their numbers

abbrev pub numbered : List Procedure → Option ℕ → Option Algorithm
numbered ps None = None
numbered ps (Some n) = option_map (λ p. code_commands p.statements.items) (slice_get ps n)

-- an algorithm that runs over a store of these forms
pub record CanWork (forms : List Form) (p : Procedure) : Type 0 where
  pub placed : placed_all forms p.statements.items ≡ true
  pub serves : Supports forms (code_commands p.statements.items)

-- ---- outputs by their numbers

abbrev pub targets_at : Option Output → Points
targets_at None = []
targets_at (Some o) = o.targets.items

abbrev pub sent_by : List Output → Option ℕ → Points
sent_by outputs None = []
sent_by outputs (Some k) = targets_at (slice_get outputs k)

abbrev pub given_at : Option Output → List Name
given_at None = []
given_at (Some o) = given_by o

abbrev pub issued_by : List Output → Option ℕ → Values → Values → Values
issued_by outputs None own issued = issued
issued_by outputs (Some k) own issued = where_in (given_at (slice_get outputs k)) own issued

-- ---- what is asked of a dispatch

abbrev pub steps_at : Moment → ℕ
steps_at (At s c phase n out) = n

-- nothing traps next, no more than so many steps are done, and there was room for what is sent
pub record CanGoOn (block : book.Block) (outputs : List Output) (most room : ℕ) (m : Moment) : Type 0 where
  pub clear : Traps block m → ⊥
  pub steps : steps_at m ≤ most
  pub enough : length (sent_to outputs (emitted_of m)) ≤ room

-- it is so at each moment from one on
abbrev pub FineFrom : book.Block → List Output → ℕ → ℕ → Moment → Type 0
FineFrom block outputs most room start = (m : Moment) → Reaches block start m → CanGoOn block outputs most room m

-- the most steps that numbers count, a limit of this project's profile
abbrev pub most_steps : ℕ
most_steps = 10 ^ 12

-- ---- how far it has come

abbrev pub cells_of : List Cell → List Cell → Cells
cells_of own issued = record { own = values_of own; issued = values_of issued }

-- a state was entered, after so many steps
abbrev pub entered : Chart → ℕ → Cells → ℕ → Moment
entered c u cells n = At (named (states_in c) u) cells (Acting (actions_of (block_in c).states (named (states_in c) u))) n []

-- an event was dispatched in a state
abbrev pub begun : Chart → ℕ → Cells → ℕ → Moment
begun c before cells event = At (named (states_in c) before) cells (Waiting (named (events_in c) event)) 1 []

-- it has come from one moment to another, and what its outputs reach is sent
pub record HasCome (block : book.Block) (outputs : List Output) (start : Moment) (state : Name) (cells : Cells) (phase : Phase) (steps : ℕ) (old new : Points) : Type 0 where
  pub outs : List Name
  pub run : Reaches block start (At state cells phase steps outs)
  pub sent : new ≡ old ++ sent_to outputs outs

-- and it has come to rest
pub record HasRested (block : book.Block) (outputs : List Output) (start : Moment) (state : Name) (cells : Cells) (steps : ℕ) (old new : Points) : Type 0 where
  pub phase : Phase
  pub come : HasCome block outputs start state cells phase steps old new
  pub rest : Rests block state cells phase
