-- Tables while they are filled: what each function makes of what it is given.
use Rattle.std.specs.Prelude.{ℕ, ◌≡◌, ◌≤◌, ◌+◌, pos, true, List, [], ◌∷◌, ◌++◌, map, length, string_bytes, Option, Some, None, IfSome, slice_get, if◌then◌else◌}
use Rattle.std.specs.List.{filter}
use Rattle.std.specs.Option.{option_map}
use Rattle.std.specs.Str.{bytes_eq}
use Rattle.std.specs.declared.string.String.{String}
use Rattle.std.specs.declared.vec.Vec.{Vec}
use Rattle.std.specs.declared.alloc.Global.{Global}
use Rattle.fb_model.specs.Names.{Name, is_in}
use Rattle.fb_model.specs.System as book
use Rattle.fb_model.specs.Services.{init, rsp, start, stop, arrivals, service_events, service_takes}
use Rattle.fb_model.specs.Wires.{Kind, Charted, Serviced}
use Rattle.fb_model.specs.Store.{gives}
use Rattle.fb_model.specs.Certificates.{event_names, events_of, depth_at}
use Rattle.fb_model.specs.CertificateText.{place_of, names_in}
use Rattle.fb_model.specs.Devices.{steps_row, places_row}
use Rattle.fb_model_laws.specs.Leaves.{IsClosedBlock}
use Rattle.fb_cert.specs.declared.certificate.Certificate as rows
use Rattle.fb_cert.specs.Views.{certificate_of}
use Rattle.st_types.specs.declared.whole.Algo.{Algo}
use Rattle.st_types.specs.CommandViews.{commands_of}
use Rattle.st_types.specs.Views.{term_of}
use Rattle.fb_types_blocks.specs.declared.typed.Action as from_action
use Rattle.fb_types_blocks.specs.declared.typed.Transition as from_transition
use Rattle.fb_types_blocks.specs.declared.typed.Block as from_block
use Rattle.fb_types_blocks.specs.Views.{name_of, block_of}
use Rattle.fb_types_blocks.specs.Answers.{names_in_map}
use Rattle.fb_types_services.specs.Views.{service_of, values_of}
use Rattle.fb_flat.specs.declared.flat.Body as from_body
use Rattle.fb_flat.specs.declared.flat.Body.TheVariants as f
use Rattle.fb_flat.specs.declared.flat.Target.{Target}
use Rattle.fb_flat.specs.declared.flat.Output as from_output
use Rattle.fb_flat.specs.declared.flat.Source as from_source
use Rattle.fb_flat.specs.declared.flat.Source.TheVariants as g
use Rattle.fb_flat.specs.declared.flat.Input.{Input}
use Rattle.fb_flat.specs.declared.flat.Leaf.{Leaf}
use Rattle.fb_flat.specs.declared.flat.FlatResource.{FlatResource}
use Rattle.fb_flat.specs.Sites.{dotted}
use Rattle.fb_flat.specs.Leaves.{kind_of}
use Rattle.fb_types.specs.declared.typed.Resource as from_resource
use Rattle.st_exec.specs.declared.command.Procedure.{Procedure}
use Rattle.st_exec.specs.Forms.{Form, slot_in}
use Rattle.st_exec.specs.CodeViews.{code_term, code_commands}
use Rattle.st_exec.specs.Placed.{placed, placed_all}
use Rattle.fb_chart.specs.declared.table.Point.{Point}
use Rattle.fb_chart.specs.declared.table.Source.{Source}
use Rattle.fb_chart.specs.declared.table.Source.TheVariants as s
use Rattle.fb_chart.specs.declared.table.Take.{Take}
use Rattle.fb_chart.specs.declared.table.Event.{Event}
use Rattle.fb_chart.specs.declared.table.Give.{Give}
use Rattle.fb_chart.specs.declared.table.Output.{Output}
use Rattle.fb_chart.specs.declared.table.Action.{Action}
use Rattle.fb_chart.specs.declared.table.State.{State}
use Rattle.fb_chart.specs.declared.table.Transition.{Transition}
use Rattle.fb_chart.specs.declared.table.ChartCode.{ChartCode}
use Rattle.fb_chart.specs.declared.table.Chart.{Chart}
use Rattle.fb_chart.specs.declared.table.Body.{Body}
use Rattle.fb_chart.specs.declared.table.Body.TheVariants as b
use Rattle.fb_chart.specs.declared.table.Block.{Block}
use Rattle.fb_chart.specs.Views.{given_by}
use Rattle.fb_chart.specs.Tables.{Each, IsAlgorithm, IsCode, IsPlacedOutput}
use Rattle.fb_device_tables.specs.Tables.{far_at}
use Rattle.fb_chart.specs.Sampling.{count_among, IsPlacedGive}
use Rattle.fb_chart.specs.declared.standing.Ports.{Ports}
use Rattle.fb_chart.specs.Ports.{ServesPorts}
use Rattle.fb_device_tables.specs.declared.table.Resource.{Resource}
use Rattle.fb_device_tables.specs.declared.chart.Shared.{Shared}
use Rattle.fb_device_tables.specs.declared.seat.Home.{Home}
use Rattle.fb_device_tables.specs.declared.seat.Seat.{Seat}

-- ---- numbers

-- the most numbers of a kind
abbrev pub most_numbers : ℕ
most_numbers = 65535

-- the number of a name that is one of a few
abbrev pub IsNumber : List Name → Name → ℕ → Type 0
IsNumber names x n = length names ≤ most_numbers → is_in x names ≡ true → slice_get names n ≡ Some x

-- the same of a name that may be left out
abbrev pub IsOptionalNumber : List Name → Option (String Global) → Option ℕ → Type 0
IsOptionalNumber names None None = Unit {0}
IsOptionalNumber names (Some x) (Some n) = IsNumber names (string_bytes x) n
IsOptionalNumber names None (Some n) = ⊥
IsOptionalNumber names (Some x) None = ⊥

-- the number of an event of a service, by its name
abbrev pub service_event : book.Service → Name → ℕ
service_event (book.Input number types) x = 0
service_event (book.Output number types) x = 0
service_event (book.Publish channel types) x = if bytes_eq x init then 0 else 1
service_event (book.Subscribe channel types) x = if bytes_eq x init then 0 else if bytes_eq x rsp then 1 else 2
service_event book.Delay x = if bytes_eq x start then 0 else if bytes_eq x stop then 1 else 2
service_event book.Cycle x = if bytes_eq x start then 0 else if bytes_eq x stop then 1 else 2
service_event book.Restart x = 0

-- names of ports have two digits: of services with more values nothing is said
abbrev pub IsSmall : book.Service → Type 0
IsSmall service = length (values_of service) ≤ 99

-- the same of a leaf
abbrev pub IsSmallKind : Kind → Type 0
IsSmallKind (Charted block) = Unit {0}
IsSmallKind (Serviced service) = IsSmall service

-- ---- charts

-- a state as a table has it: its name, and its actions
abbrev pub NamedActions : Type 0
NamedActions = String Global × Vec from_action.Action Global

-- an algorithm as a table has it: its name, and itself
abbrev pub Routine : Type 0
Routine = String Global × Algo

pub record IsActionMade (k : from_block.Block) (a : from_action.Action) (x : Action) : Type 0 where
  pub algorithm : length k.procedures.entries ≤ most_numbers → IsAlgorithm (block_of k) (name_of a.algorithm) x.algorithm
  pub output : IsOptionalNumber (names_in_map k.face.event_outputs) a.output x.output

pub record IsTransitionMade (own : List Form) (k : from_block.Block) (t : from_transition.Transition) (x : Transition) : Type 0 where
  pub target : IsNumber (names_in_map k.states) (string_bytes t.target) x.target
  pub event : IsOptionalNumber (names_in_map k.face.event_inputs) t.event x.event
  pub guard : option_map code_term x.guard ≡ option_map term_of t.guard
  pub placed : IfSome x.guard (λ g. placed own g ≡ true)

-- the transitions that leave a state
abbrev pub leaving_from : Name → List from_transition.Transition → List from_transition.Transition
leaving_from x ts = filter (λ (t : from_transition.Transition). bytes_eq (string_bytes t.source) x) ts

pub record IsStateMade (own : List Form) (k : from_block.Block) (s : NamedActions) (x : State) : Type 0 where
  pub name : string_bytes x.name ≡ string_bytes s.0
  pub actions : Each (IsActionMade k) s.1.items x.actions.items
  pub transitions : Each (IsTransitionMade own k) (leaving_from (string_bytes s.0) k.transitions.items) x.transitions.items

abbrev pub IsProcedureMade : List Form → Routine → Procedure → Type 0
IsProcedureMade own r x = (code_commands x.statements.items ≡ commands_of r.1.statements.items) × (placed_all own x.statements.items ≡ true)

pub record IsCodeMade (own : List Form) (k : from_block.Block) (x : ChartCode) : Type 0 where
  pub states : Each (IsStateMade own k) k.states.entries x.states.items
  pub procedures : Each (IsProcedureMade own) k.procedures.entries x.procedures.items

-- what runs of a chart is that of a block, if this names what it has alone and has few algorithms; another instance of the same block may have made it
abbrev pub IsCodeOf : List Form → book.Block → ChartCode → Type 0
IsCodeOf own block x = IsClosedBlock block → length block.procedures ≤ 256 → IsCode own (event_names block.event_inputs) (event_names block.event_outputs) block x

-- what an instance shares runs of its block
abbrev pub IsShared : Shared → Type 0
IsShared s = IsCodeOf s.own.now (block_of s.block.now.value) s.code.value

pub record IsChartMade (own : List Form) (k : from_block.Block) (c : Chart) : Type 0 where
  pub block : c.block.value ≡ k
  pub code : IsCodeOf own (block_of k) c.code.value

-- ---- bodies

abbrev pub IsBodyMade : List Form → from_body.Body → Body → Type 0
IsBodyMade own (f.Basic block) (b.Chart c) = IsChartMade own block.value c
IsBodyMade own (f.Served service) (b.Served x) = service_of x ≡ service_of service
IsBodyMade own (f.Basic block) (b.Served x) = ⊥
IsBodyMade own (f.Served service) (b.Chart c) = ⊥

-- ---- leaves in order

-- a leaf with the number of its resource
abbrev pub Numbered : Type 0
Numbered = ℕ × Leaf

abbrev pub home_of : Home → Numbered
home_of h = (h.resource, h.leaf.now)

abbrev pub homes_of : List Home → List Numbered
homes_of hs = map home_of hs

-- the leaves of a resource of this number
abbrev pub numbered : ℕ → List Leaf → List Numbered
numbered n ls = map (λ (l : Leaf). (n, l)) ls

-- the leaves of resources, the first of this number
abbrev pub numbered_from : ℕ → List FlatResource → List Numbered
numbered_from n [] = []
numbered_from n (r ∷ rs) = numbered n r.leaves.items ++ numbered_from (n + 1) rs

-- a leaf with the number of its resource, and the forms of its working and of its issued values
pub record Seated : Type 0 where
  pub home : ℕ
  pub leaf : Leaf
  pub own : List Form
  pub issued : List Form

abbrev pub seat_of : Seat → Seated
seat_of s = record { home = s.resource; leaf = s.leaf.now; own = s.own.now; issued = s.issued.now }

abbrev pub seats_of : List Seat → List Seated
seats_of xs = map seat_of xs

abbrev pub numbered_leaf : Seated → Numbered
numbered_leaf s = (s.home, s.leaf)

-- the seats are of these leaves and these forms
pub record AreSeats (leaves : List Numbered) (owns issues : List (List Form)) (ss : List Seated) : Type 0 where
  pub leaves_are : map numbered_leaf ss ≡ leaves
  pub owns_are : map (λ s. s.own) ss ≡ owns
  pub issues_are : map (λ s. s.issued) ss ≡ issues

-- their paths
abbrev pub paths_of : List Seated → List Name
paths_of xs = map (λ s. string_bytes s.leaf.path) xs

-- ---- where inputs take their values from

-- the source of the first input of a name
abbrev pub source_named : List Input → Name → Option from_source.Source
source_named [] x = None
source_named (i ∷ is) x = if bytes_eq x (string_bytes i.name) then Some i.source else source_named is x

-- the slot of an output of the seat of a number
abbrev pub IsSlotAt : List Seated → ℕ → Name → ℕ → Type 0
IsSlotAt all n y slot = (s : Seated) → slice_get all n ≡ Some s → slot ≡ slot_in s.issued y

-- an output by the number of its leaf's path and its slot, or a constant by its one number
abbrev pub IsSourceMade : List Name → List Seated → from_source.Source → Source → Type 0
IsSourceMade paths all (g.Output path y) (s.Output n z slot) = IsNumber paths (string_bytes path) n × (string_bytes z ≡ string_bytes y) × IsSlotAt all n (string_bytes y) slot
IsSourceMade paths all (g.Number k) (s.Number n) = n ≡ k
IsSourceMade paths all (g.Zeros low high) (s.Number n) = n ≡ pos 0
IsSourceMade paths all (g.Output path y) (s.Number n) = ⊥
IsSourceMade paths all (g.Number k) (s.Output n z slot) = ⊥
IsSourceMade paths all (g.Zeros low high) (s.Output n z slot) = ⊥

-- an input of a name with its slots and its source, if it has one
pub record IsTakeMade (paths : List Name) (all : List Seated) (own : List Form) (inputs : List Input) (x : Name) (t : Take) : Type 0 where
  pub input : string_bytes t.input ≡ x
  pub slot : t.slot ≡ slot_in own x
  pub count : t.count ≡ count_among own x
  pub source : (from : from_source.Source) → source_named inputs x ≡ Some from → IsSourceMade paths all from t.source

-- ---- blocks

-- an event input or arrival of a service, with the data inputs that it is WITH
abbrev pub served_with : book.Service → Name → book.Event
served_with service x = record { name = x; carries = service_takes service x }

-- the event inputs and arrivals, with the data inputs that each is WITH
abbrev pub events_with : Kind → List book.Event
events_with (Charted block) = block.event_inputs
events_with (Serviced service) = map (served_with service) (service_events service)

-- an event of a path with the numbers of the rows at both
pub record IsRowMade (cert : rows.Certificate) (path x : Name) (e : Event) : Type 0 where
  pub name : string_bytes e.name ≡ x
  pub steps : e.steps ≡ steps_row (certificate_of cert) (place_of (dotted path x))
  pub places : e.places ≡ places_row (certificate_of cert) (place_of (dotted path x))
  pub far : e.far ≡ far_at (certificate_of cert) (place_of (dotted path x))

-- an event of a leaf with its row and the inputs that it is WITH
pub record IsEventMade (cert : rows.Certificate) (paths : List Name) (all : List Seated) (l : Seated) (v : book.Event) (e : Event) : Type 0 where
  pub row : IsRowMade cert (string_bytes l.leaf.path) v.name e
  pub takes : Each (IsTakeMade paths all l.own l.leaf.inputs.items) v.carries e.takes.items

-- the arrival of a service, if it has one
abbrev pub arrived : Option Event → List Event
arrived None = []
arrived (Some e) = e ∷ []

abbrev pub IsArrivalMade : rows.Certificate → List Name → List Seated → Seated → book.Service → Option Event → Type 0
IsArrivalMade cert paths all l service o = Each (IsEventMade cert paths all l) (map (served_with service) (arrivals service)) (arrived o)

-- a target's block by the number of its path, and its event by its number in that block
pub record IsPointMade (paths : List Name) (all : List Seated) (t : Target) (p : Point) : Type 0 where
  pub block : IsNumber paths (string_bytes t.path) p.block
  pub event : (s : Seated) → slice_get all p.block ≡ Some s → IsNumber (events_of (kind_of s.leaf.body)) (string_bytes t.event) p.event

-- an output of a name with its slots
abbrev pub IsGiveMade : List Form → List Form → Name → Give → Type 0
IsGiveMade own issued x g = (string_bytes g.output ≡ x) × IsPlacedGive own issued g

-- an event output of a leaf, where it leads, and the data outputs that it is WITH
pub record IsOutputMade (paths : List Name) (all : List Seated) (l : Seated) (o : from_output.Output) (x : Output) : Type 0 where
  pub name : string_bytes x.name ≡ string_bytes o.name
  pub points : Each (IsPointMade paths all) o.targets.items x.targets.items
  pub gives_are : IsSmallKind (kind_of l.leaf.body) → given_by x ≡ gives (kind_of l.leaf.body) (string_bytes o.name)
  pub placed : IsPlacedOutput l.own l.issued x

pub record IsBlockMade (cert : rows.Certificate) (paths : List Name) (all : List Seated) (s : Seated) (x : Block) : Type 0 where
  pub path : string_bytes x.path ≡ string_bytes s.leaf.path
  pub resource : x.resource ≡ s.home
  pub events : IsSmallKind (kind_of s.leaf.body) → Each (IsEventMade cert paths all s) (events_with (kind_of s.leaf.body)) x.events.items
  pub outputs : Each (IsOutputMade paths all s) s.leaf.outputs.items x.outputs.items
  pub body : IsBodyMade s.own s.leaf.body x.body

-- ---- ports

abbrev pub IsPortsMade : Seated → Ports → Type 0
IsPortsMade s p = IsSmallKind (kind_of s.leaf.body) → ServesPorts (kind_of s.leaf.body) s.own p

-- ---- resources

-- a resource of a device with the number of the row at its path
abbrev pub IsResourceMade : rows.Certificate → Name → from_resource.Resource → Resource → Type 0
IsResourceMade cert device r x = (string_bytes x.name ≡ string_bytes r.name) × (x.depth ≡ depth_at (certificate_of cert).depths (names_in (dotted device (string_bytes r.name))))
