-- When the numbers, slots and names of a block's table stand for its kind in the book.
-- IEC 61499-1 edition 2, 5.2 (charts) and 6.1 (service interfaces).
use Rattle.std.specs.Prelude.{ℕ, ◌≡◌, ◌≤◌, true, List, [], ◌∷◌, length, string_bytes, Option, None, Some, IfSome, slice_get}
use Rattle.std.specs.List.{AllByRecursion, filter}
use Rattle.std.specs.Option.{option_map}
use Rattle.std.specs.Str.{bytes_eq}
use Rattle.fb_model.specs.Names.{Name}
use Rattle.fb_model.specs.System as book
use Rattle.fb_model.specs.Typing.{AreDistinct}
use Rattle.fb_model.specs.Store.{takes, gives}
use Rattle.fb_model.specs.Charts.{algorithm_of}
use Rattle.fb_model.specs.Certificates.{names, events_of}
use Rattle.fb_types_blocks.specs.Views.{block_of}
use Rattle.fb_types_services.specs.Views.{service_of, values_of}
use Rattle.st_exec.specs.declared.command.Procedure.{Procedure}
use Rattle.st_exec.specs.CodeViews.{code_term, code_commands}
use Rattle.st_exec.specs.Placed.{placed, placed_all}
use Rattle.st_exec.specs.Cells.{Form}
use Rattle.fb_chart.specs.declared.table.Action.{Action}
use Rattle.fb_chart.specs.declared.table.State.{State}
use Rattle.fb_chart.specs.declared.table.Transition.{Transition}
use Rattle.fb_chart.specs.declared.table.ChartCode.{ChartCode}
use Rattle.fb_chart.specs.declared.table.Chart.{Chart}
use Rattle.fb_chart.specs.declared.table.Event.{Event}
use Rattle.fb_chart.specs.declared.table.Output.{Output}
use Rattle.fb_chart.specs.declared.table.Body.{Body}
use Rattle.fb_chart.specs.declared.table.Body.TheVariants as b
use Rattle.fb_chart.specs.declared.table.Block.{Block}
use Rattle.fb_chart.specs.Views.{event_names, output_names, taken_by, given_by, kind_of, outputs_of}
use Rattle.fb_chart.specs.Sampling.{IsPlacedGive}

-- what is so of the elements of two lists, one by one
abbrev pub Each : {X Y : Type 0} → (X → Y → Type 0) → List X → List Y → Type 0
Each R [] [] = Unit {0}
Each R (x ∷ xs) (y ∷ ys) = R x y × Each R xs ys
Each R [] (y ∷ ys) = ⊥
Each R (x ∷ xs) [] = ⊥

-- ---- algorithms

-- an algorithm by slots
pub record IsProcedure (forms : List Form) (p : book.Procedure) (x : Procedure) : Type 0 where
  pub same : code_commands x.statements.items ≡ p.algorithm
  pub placed : placed_all forms x.statements.items ≡ true

-- the number of the algorithm that the book finds by a name; none where it finds none
abbrev pub IsAlgorithm : book.Block → Option Name → Option ℕ → Type 0
IsAlgorithm block a None = algorithm_of block a ≡ None
IsAlgorithm block a (Some n) = (p : book.Procedure) × (slice_get block.procedures n ≡ Some p) × (algorithm_of block a ≡ Some p.algorithm)

-- ---- charts

-- the number of a name that may be left out
abbrev pub IsOptional : List Name → Option Name → Option ℕ → Type 0
IsOptional names None None = Unit {0}
IsOptional names (Some x) (Some n) = slice_get names n ≡ Some x
IsOptional names None (Some n) = ⊥
IsOptional names (Some x) None = ⊥

pub record IsAction (block : book.Block) (outputs : List Name) (a : book.Action) (x : Action) : Type 0 where
  pub algorithm : IsAlgorithm block a.algorithm x.algorithm
  pub output : IsOptional outputs a.output x.output

pub record IsTransition (forms : List Form) (states events : List Name) (t : book.Transition) (x : Transition) : Type 0 where
  pub target : slice_get states x.target ≡ Some t.target
  pub event : IsOptional events t.event x.event
  pub guard : option_map code_term x.guard ≡ t.guard
  pub placed : IfSome x.guard (λ g. placed forms g ≡ true)

-- the transitions that leave a state, in text order
abbrev pub leaving : Name → List book.Transition → List book.Transition
leaving s ts = filter (λ t. bytes_eq t.source s) ts

pub record IsState (forms : List Form) (events outputs : List Name) (block : book.Block) (s : book.State) (x : State) : Type 0 where
  pub name : string_bytes x.name ≡ s.name
  pub actions : Each (IsAction block outputs) s.actions x.actions.items
  pub transitions : Each (IsTransition forms (names block.states) events) (leaving s.name block.transitions) x.transitions.items

-- what runs of a chart, by numbers and slots, is that of this block; the names of its states are few, and all different
pub record IsCode (forms : List Form) (events outputs : List Name) (block : book.Block) (x : ChartCode) : Type 0 where
  pub few : length (names block.states) ≤ 65535
  pub apart : AreDistinct (names block.states)
  pub states : Each (IsState forms events outputs block) block.states x.states.items
  pub procedures : Each (IsProcedure forms) block.procedures x.procedures.items

-- the same of a chart
abbrev pub IsChart : List Form → List Name → List Name → book.Block → Chart → Type 0
IsChart forms events outputs block c = IsCode forms events outputs block c.code.value

-- the most values of one event
abbrev pub most_values : ℕ
most_values = 16

abbrev pub IsBody : List Form → List Name → List Name → Body → Type 0
IsBody forms events outputs (b.Chart c) = IsChart forms events outputs (block_of c.block.value) c
IsBody forms events outputs (b.Served s) = length (values_of (service_of s)) ≤ most_values

-- ---- blocks

-- all that an event output is WITH has its slots in both stores
abbrev pub IsPlacedOutput : List Form → List Form → Output → Type 0
IsPlacedOutput own issued o = AllByRecursion (IsPlacedGive own issued) o.gives.items

-- a table of a block whose working and issued values have these forms
pub record IsTable (own issued : List Form) (x : Block) : Type 0 where
  pub events : event_names x ≡ events_of (kind_of x)
  pub events_apart : AreDistinct (event_names x)
  pub few_events : length x.events.items ≤ 65535
  pub outputs : output_names x ≡ outputs_of (kind_of x)
  pub outputs_apart : AreDistinct (output_names x)
  pub takes : AllByRecursion (λ (e : Event). taken_by e ≡ takes (kind_of x) (string_bytes e.name)) x.events.items
  pub gives : AllByRecursion (λ (o : Output). given_by o ≡ gives (kind_of x) (string_bytes o.name)) x.outputs.items
  pub placed : AllByRecursion (IsPlacedOutput own issued) x.outputs.items
  pub body : IsBody own (event_names x) (output_names x) x.body
