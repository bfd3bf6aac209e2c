-- When the rows of a leaf's tables pay for what they have to, in one column, and what a refusal names.
use Rattle.std.specs.Prelude.{◌≡◌, ◌≤◌, ◌⊎◌, ℕ, ◌+◌, true, List, [], Option, None, Some, Result, MatchResult, string_bytes}
use Rattle.std.specs.List.{sum_by, AllByRecursion, Any}
use Rattle.fb_model.specs.Names.{Name, is_in}
use Rattle.fb_model.specs.System.{Service}
use Rattle.fb_model.specs.Services.{can_emit}
use Rattle.fb_model.specs.Certificates.{sending_of}
use Rattle.fb_cert.specs.declared.certificate.Certificate.{Certificate}
use Rattle.fb_cert.specs.Views.{certificate_of}
use Rattle.fb_flat.specs.declared.flat.Output.{Output}
use Rattle.fb_flat.specs.Sites.{dotted}
use Rattle.fb_types_blocks.specs.declared.typed.Transition.{Transition}
use Rattle.fb_types_blocks.specs.declared.typed.Block.{Block}
use Rattle.fb_check_columns.specs.declared.column.Column.{Column}
use Rattle.fb_faults.specs.declared.shortfall.Shortfall.{Shortfall}
use Rattle.fb_faults.specs.declared.shortfall.Shortfall.TheVariants.{OutOfMemory, Charge, Weight, Channel}
use Rattle.fb_check_columns.specs.Columns.{unit_of, column_of, crossing_need}
use Rattle.fb_check_columns.specs.Reckoning.{weight_of, charge_of, load_at, table_names, Costs, NamedActions, own_of, cost_at, most_free}

-- ---- refusals

-- want of memory
abbrev pub IsMemory : Shortfall → Type 0
IsMemory OutOfMemory = Unit {0}
IsMemory (Charge row) = ⊥
IsMemory (Weight row) = ⊥
IsMemory (Channel number) = ⊥

-- want of memory, or the charge of such a state
abbrev pub IsCharge : Name → (Name → Type 0) → Shortfall → Type 0
IsCharge path P OutOfMemory = Unit {0}
IsCharge path P (Charge row) = (x : Name) × (string_bytes row ≡ dotted path x) × P x
IsCharge path P (Weight row) = ⊥
IsCharge path P (Channel number) = ⊥

-- want of memory, or the weight of such an event
abbrev pub IsWeight : Name → (Name → Type 0) → Shortfall → Type 0
IsWeight path P OutOfMemory = Unit {0}
IsWeight path P (Charge row) = ⊥
IsWeight path P (Weight row) = (e : Name) × (string_bytes row ≡ dotted path e) × P e
IsWeight path P (Channel number) = ⊥

-- it accepts where this is so, and otherwise names this state or event
abbrev pub Names : ((Name → Type 0) → Shortfall → Type 0) → Name → Type 0 → Result (Unit {0}) Shortfall → Type 0
Names Says x P r = MatchResult r (λ u. P) (Says (λ y. (x ≡ y) × (P → ⊥)))

-- it accepts where this is so of each, and otherwise names one of which it is not
abbrev pub NamesOne : {X : Type 0} → ((Name → Type 0) → Shortfall → Type 0) → (X → Name) → (X → Type 0) → List X → Result (Unit {0}) Shortfall → Type 0
NamesOne Says name P xs r = MatchResult r (λ u. AllByRecursion P xs) (Says (λ y. Any (λ x. (name x ≡ y) × (P x → ⊥)) xs))

-- ---- what has to be paid

-- the charge of a state pays for its actions
abbrev pub StatePays : Column → Certificate → Name → Block → Costs → NamedActions → Type 0
StatePays c cert path block costs s = own_of block costs s ≤ charge_of c cert path (string_bytes s.0)

-- the charge of a state pays for a free transition that leaves it
abbrev pub SourcePays : Column → Certificate → Name → (Name → ℕ) → Transition → Type 0
SourcePays c cert path cost t = t.event ≡ None → cost (string_bytes t.source) + unit_of c + charge_of c cert path (string_bytes t.target) ≤ charge_of c cert path (string_bytes t.source)

-- a weight pays for a dispatch, and for so much
abbrev pub Pays : ℕ → ℕ → Type 0
Pays weight need = (1 ≤ weight) × (need ≤ weight)

-- the weight of an event input pays for each crossing without an event
abbrev pub InputPays : Column → Certificate → Name → Option ℕ → Name → Type 0
InputPays c cert path most e = Pays (weight_of c cert path e) (crossing_need c most)

-- the weight of the event that a transition names pays for its crossing
abbrev pub EventPays : Column → Certificate → Name → Transition → Type 0
EventPays c cert path t = elim t.event [ None ↦ Unit {0} | Some e ↦ Pays (weight_of c cert path (string_bytes e)) (crossing_need c (Some (charge_of c cert path (string_bytes t.target)))) ]

-- the event that a transition names
abbrev pub event_named : Transition → Name
event_named t = elim t.event [ None ↦ [] | Some e ↦ string_bytes e ]

-- ---- a block

abbrev pub outputs_in : Block → List Name
outputs_in block = table_names block.face.event_outputs

abbrev pub inputs_in : Block → List Name
inputs_in block = table_names block.face.event_inputs

abbrev pub costs_in : Block → Costs → Name → ℕ
costs_in block costs = cost_at block costs block.states.entries

abbrev pub most_in : Column → Certificate → Name → Block → Option ℕ
most_in c cert path block = most_free (charge_of c cert path) None block.transitions.items

-- the rows of a block pay, where the parts of its actions cost this
pub record ChartPays (c : Column) (cert : Certificate) (path : Name) (block : Block) (costs : Costs) : Type 0 where
  pub states : AllByRecursion (StatePays c cert path block costs) block.states.entries
  pub sources : AllByRecursion (SourcePays c cert path (costs_in block costs)) block.transitions.items
  pub inputs : AllByRecursion (InputPays c cert path (most_in c cert path block)) (inputs_in block)
  pub events : AllByRecursion (EventPays c cert path) block.transitions.items

-- the charge of a state of this name does not pay
abbrev pub StateOwes : Column → Certificate → Name → Block → Costs → Name → Type 0
StateOwes c cert path block costs x =
    Any (λ s. (string_bytes s.0 ≡ x) × (StatePays c cert path block costs s → ⊥)) block.states.entries
    ⊎ Any (λ t. (string_bytes t.source ≡ x) × (SourcePays c cert path (costs_in block costs) t → ⊥)) block.transitions.items

-- the weight of an event of this name does not pay
abbrev pub EventOwes : Column → Certificate → Name → Block → Name → Type 0
EventOwes c cert path block e =
    Any (λ x. (x ≡ e) × (InputPays c cert path (most_in c cert path block) x → ⊥)) (inputs_in block)
    ⊎ Any (λ t. (event_named t ≡ e) × (EventPays c cert path t → ⊥)) block.transitions.items

-- a row of the block that is named does not pay
abbrev pub IsOwing : Column → Certificate → Name → Block → Costs → Shortfall → Type 0
IsOwing c cert path block costs OutOfMemory = Unit {0}
IsOwing c cert path block costs (Charge row) = IsCharge path (StateOwes c cert path block costs) (Charge row)
IsOwing c cert path block costs (Weight row) = IsWeight path (EventOwes c cert path block) (Weight row)
IsOwing c cert path block costs (Channel number) = ⊥

-- ---- a service

-- the weight of an event input or arrival pays for its dispatch, for all that it can emit, and for the datagram that it can send
abbrev pub DispatchPays : Column → Certificate → Name → Service → List Output → Name → Type 0
DispatchPays c cert path service outputs e = Pays (weight_of c cert path e) (unit_of c + sum_by (load_at c cert outputs) (can_emit service e) + sending_of (column_of c (certificate_of cert)) service e)

-- it is one of these events, and its weight does not pay
abbrev pub OneOwes : Column → Certificate → Name → Service → List Output → List Name → Name → Type 0
OneOwes c cert path service outputs events e = (is_in e events ≡ true) × (DispatchPays c cert path service outputs e → ⊥)
