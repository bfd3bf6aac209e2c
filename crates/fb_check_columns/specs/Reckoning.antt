-- What is reckoned with, in one column of a certificate.
use Rattle.std.specs.Prelude.{ℕ, ◌+◌, min, List, [], ◌∷◌, Option, None, Some, map, string_bytes, if◌then◌else◌}
use Rattle.std.specs.List.{sum_by}
use Rattle.std.specs.Str.{bytes_eq}
use Rattle.std.specs.declared.string.String.{String}
use Rattle.std.specs.declared.vec.Vec.{Vec}
use Rattle.std.specs.declared.alloc.Global.{Global}
use Rattle.indexmap.specs.IndexMap.{IndexMap}
use Rattle.fb_model.specs.Names.{Name}
use Rattle.fb_model.specs.CertificateText.{most_steps}
use Rattle.fb_cert.specs.declared.certificate.Certificate.{Certificate}
use Rattle.fb_cert.specs.Views.{first_at, rows_of, steps_in, places_in, count_in}
use Rattle.fb_flat.specs.declared.flat.Target.{Target}
use Rattle.fb_flat.specs.declared.flat.Output.{Output}
use Rattle.fb_flat.specs.Sites.{dotted}
use Rattle.fb_types_blocks.specs.declared.typed.Action.{Action}
use Rattle.fb_types_blocks.specs.declared.typed.Transition.{Transition}
use Rattle.fb_types_blocks.specs.declared.typed.Block.{Block}
use Rattle.fb_check_columns.specs.declared.column.Column.{Column}
use Rattle.fb_check_columns.specs.declared.column.Column.TheVariants.{Steps, Places, Far}
use Rattle.fb_check_columns.specs.declared.cost.Prices.{Prices}
use Rattle.fb_check_columns.specs.Sums.{IsSum, greater}

-- ---- rows

-- what the row of an event input or arrival says in a column, and that of a state; 0 where there is no row
abbrev pub weight_row : Column → Certificate → List ℕ → ℕ
weight_row Steps cert row = steps_in (first_at row (rows_of cert).weights)
weight_row Places cert row = places_in (first_at row (rows_of cert).weights)
weight_row Far cert row = count_in (first_at row (rows_of cert).fars)

abbrev pub charge_row : Column → Certificate → List ℕ → ℕ
charge_row Steps cert row = steps_in (first_at row (rows_of cert).charges)
charge_row Places cert row = places_in (first_at row (rows_of cert).charges)
charge_row Far cert row = count_in (first_at row (rows_of cert).far_states)

-- the weight of an event input or arrival, and the charge of a state; no row says more than the most steps
abbrev pub weight_of : Column → Certificate → Name → Name → ℕ
weight_of c cert path event = min (weight_row c cert (dotted path event)) most_steps

abbrev pub charge_of : Column → Certificate → Name → Name → ℕ
charge_of c cert path state = min (charge_row c cert (dotted path state)) most_steps

-- ---- outputs

abbrev pub target_weight : Column → Certificate → Target → ℕ
target_weight c cert t = weight_of c cert (string_bytes t.path) (string_bytes t.event)

-- the weights of all targets
abbrev pub load_of : Column → Certificate → List Target → ℕ
load_of c cert targets = sum_by (target_weight c cert) targets

-- the load of the first output of a name, 0 where there is none
abbrev pub load_at : Column → Certificate → List Output → Name → ℕ
load_at c cert [] o = 0
load_at c cert (x ∷ xs) o = if bytes_eq o (string_bytes x.name) then load_of c cert x.targets.items else load_at c cert xs o

-- ---- what stands in tables

-- the names of a table, in order
abbrev pub table_names : {V S : Type 0} → IndexMap (String Global) V S → List Name
table_names m = map (λ p. string_bytes p.0) m.entries

-- what stands at the place that a name has among the names
abbrev pub value_at : {A : Type 0} → List Name → List A → A → Name → A
value_at [] xs other x = other
value_at (n ∷ ns) [] other x = other
value_at (n ∷ ns) (y ∷ ys) other x = if bytes_eq x n then y else value_at ns ys other x

-- each is the sum of this number
abbrev pub AreSums : List (Option ℕ) → List ℕ → Type 0
AreSums [] [] = Unit {0}
AreSums (s ∷ ss) (n ∷ ns) = IsSum s n × AreSums ss ns
AreSums [] (n ∷ ns) = ⊥
AreSums (s ∷ ss) [] = ⊥

-- ---- states

-- what the parts of actions cost: each algorithm of a block, and each of its event outputs, in their orders
pub record Costs : Type 0 where
  pub algorithms : List ℕ
  pub outputs : List ℕ

-- the prices are these
abbrev pub ArePrices : Prices → Costs → Type 0
ArePrices prices costs = AreSums prices.algorithms.items costs.algorithms × AreSums prices.outputs.items costs.outputs

-- a state of the tables: its name and its actions
abbrev pub NamedActions : Type 0
NamedActions = String Global × Vec Action Global

-- the cost of the algorithm that an action runs
abbrev pub worked : Block → Costs → Action → ℕ
worked k costs a = elim a.algorithm [ None ↦ 0 | Some x ↦ value_at (table_names k.procedures) costs.algorithms 0 (string_bytes x) ]

-- the load of what an action emits
abbrev pub emitted : Block → Costs → Action → ℕ
emitted k costs a = elim a.output [ None ↦ 0 | Some o ↦ value_at (table_names k.face.event_outputs) costs.outputs 0 (string_bytes o) ]

abbrev pub acted : Block → Costs → Action → ℕ
acted k costs a = worked k costs a + emitted k costs a

-- what the actions of a state cost by themselves
abbrev pub own_of : Block → Costs → NamedActions → ℕ
own_of k costs s = sum_by (acted k costs) s.1.items

-- the same of the first state of a name, 0 where there is none
abbrev pub cost_at : Block → Costs → List NamedActions → Name → ℕ
cost_at k costs states x = value_at (map (λ s. string_bytes s.0) states) (map (own_of k costs) states) 0 x

-- ---- free transitions

-- the charge of the state that a transition leads to, where it is free
abbrev pub free_next : (Name → ℕ) → Transition → Option ℕ
free_next charge t = elim t.event [ None ↦ Some (charge (string_bytes t.target)) | Some e ↦ None ]

-- the greatest of them, and of one that is there
abbrev pub most_free : (Name → ℕ) → Option ℕ → List Transition → Option ℕ
most_free charge most [] = most
most_free charge most (t ∷ ts) = most_free charge (greater most (free_next charge t)) ts
