-- Which numbers of a certificate ask for which others: the inequalities that a column must fulfil, as one list, read from left to right.
-- This project's profile; the charts are those of IEC 61499-1 edition 2, 5.2.2.
use Rattle.std.specs.Prelude.{ℕ, ◌≡◌, ◌≢◌, ◌+◌, ◌-◌, ◌*◌, ◌<◌, ◌≤◌, List, [], ◌∷◌, ◌++◌, length, map, replicate, slice_index_or, Option, None, Some, if◌then◌else◌}
use Rattle.std.specs.List.{Contains, sum_by, flat_map}
use Rattle.std.specs.Str.{bytes_eq}
use Rattle.fb_model.specs.Names.{Name, Place, at_place}
use Rattle.fb_model.specs.System.{Action, State, Transition, Block, Service}
use Rattle.fb_model.specs.Services.{service_events, can_emit, arrive, init}
use Rattle.fb_model.specs.Wires.{Kind, Charted, Serviced, Leaf}
use Rattle.fb_model.specs.Charts.{actions_of, is_open, emission}
use Rattle.fb_model.specs.Certificates.{reached, event_names, admissions, channels_of}

-- what has a number in a column: a state, an event input or arrival, or a channel
pub data Node : Type 0 where
  state : (place : Place) → Node
  event : (place : Place) → Node
  channel : (number : ℕ) → Node

-- the number of a node is at least a constant and the numbers of other nodes together
pub record Demand : Type 0 where
  pub node : Node
  pub constant : ℕ
  pub terms : List Node

abbrev pub IsMet : (Node → ℕ) → Demand → Type 0
IsMet x d = d.constant + sum_by x d.terms ≤ x d.node

-- ---- the demands of a leaf

-- what is reckoned with at a leaf: what a dispatch or a crossing counts, what an algorithm costs, the places of the leaf's own names, where its outputs lead,
-- and what a datagram of a channel asks for
pub record Ground : Type 0 where
  pub unit : ℕ
  pub price : Option Name → ℕ
  pub own : Name → Place
  pub targets : Name → List Place
  pub datagram : ℕ → List Node

-- what actions run costs so much
abbrev pub work : Ground → List Action → ℕ
work g actions = sum_by (λ (a : Action). g.price a.algorithm) actions

-- what actions emit reaches these event inputs
abbrev pub emitted : Ground → List Action → List Node
emitted g actions = flat_map (λ (a : Action). map event (reached g.targets (emission a.output))) actions

-- the charge of a state pays for its actions
abbrev pub of_state : Ground → State → Demand
of_state g x = record { node = state (g.own x.name); constant = work g x.actions; terms = emitted g x.actions }

-- and for a transition without an event that leaves it, with the charge of the state that this leads to
abbrev pub free_demand : Ground → List Action → Name → Name → Demand
free_demand g actions source target = record { node = state (g.own source); constant = work g actions + g.unit; terms = emitted g actions ++ state (g.own target) ∷ [] }

abbrev pub of_free : Ground → Block → Transition → List Demand
of_free g block t = elim t.event [ None ↦ free_demand g (actions_of block.states t.source) t.source t.target ∷ [] | Some e ↦ [] ]

-- a weight is at least 1
abbrev pub of_least : Ground → Name → Demand
of_least g e = record { node = event (g.own e); constant = 1; terms = [] }

-- the weight of an event input pays for its dispatch and for each crossing that it may cause, with the charge of the state that this leads to
abbrev pub crossing_demand : Ground → Name → Name → Demand
crossing_demand g e target = record { node = event (g.own e); constant = 2 * g.unit; terms = state (g.own target) ∷ [] }

abbrev pub of_crossing : Ground → Name → Transition → List Demand
of_crossing g e t = if is_open t.event (Some e) then crossing_demand g e t.target ∷ [] else []

abbrev pub of_input : Ground → Block → Name → List Demand
of_input g block e = of_least g e ∷ flat_map (of_crossing g e) block.transitions

abbrev pub of_chart : Ground → Block → List Demand
of_chart g block = map (of_state g) block.states ++ (flat_map (of_free g block) block.transitions ++ flat_map (of_input g block) (event_names block.event_inputs))

-- what the datagram asks for that an event input can send
abbrev pub sent : Ground → Service → Name → List Node
sent g (Service.Publish c types) e = if bytes_eq e init then [] else g.datagram c.number
sent g _ e = []

-- the weight of an event input or arrival of a service pays for its dispatch, for a datagram, and for all that it can emit
abbrev pub sending_demand : Ground → Name → List Node → List Name → Demand
sending_demand g e datagram outputs = record { node = event (g.own e); constant = g.unit; terms = datagram ++ map event (reached g.targets outputs) }

abbrev pub of_dispatch : Ground → Service → Name → List Demand
of_dispatch g service e = of_least g e ∷ sending_demand g e (sent g service e) (can_emit service e) ∷ []

abbrev pub of_kind : Ground → Kind → List Demand
of_kind g (Charted block) = of_chart g block
of_kind g (Serviced service) = flat_map (of_dispatch g service) (service_events service)

-- ---- the network

-- the same where a datagram asks for its channel
abbrev pub linked : Ground → Ground
linked g = record g { datagram = λ c. channel c ∷ [] }

-- the arrival of a leaf, as often as it may admit a datagram of the channel
abbrev pub heard : ℕ → ℕ → Leaf → List Node
heard repeats c leaf = replicate (admissions repeats c leaf.kind) (event (at_place leaf.path arrive))

-- the number of a channel pays for the arrivals of a datagram at all its SUBSCRIBE
abbrev pub of_channel : ℕ → List Leaf → ℕ → Demand
of_channel repeats all c = record { node = channel c; constant = 0; terms = flat_map (heard repeats c) all }

abbrev pub channel_demands : ℕ → List Leaf → List Demand
channel_demands repeats all = map (of_channel repeats all) (channels_of all)

-- ---- demands whatever algorithms cost

-- a dispatch or a crossing counts 1, and algorithms and datagrams nothing
abbrev pub bare : Leaf → Ground
bare leaf = record { unit = 1; price = λ a. 0; own = at_place leaf.path; targets = leaf.targets; datagram = λ c. [] }

abbrev pub bare_demands : List Leaf → List Demand
bare_demands all = flat_map (λ leaf. of_kind (bare leaf) leaf.kind) all

-- over the network, where a datagram is admitted once at each device
abbrev pub bare_network : List Leaf → List Demand
bare_network all = flat_map (λ leaf. of_kind (linked (bare leaf)) leaf.kind) all ++ channel_demands 1 all

-- ---- walks

-- one node asks another for its number, and a constant more
abbrev pub Asks : List Demand → Node → Node → ℕ → Type 0
Asks ds x y k = (d : Demand) × Contains ds d × (d.node ≡ x) × Contains d.terms y × (k ≡ d.constant)

-- the node at a place of a walk
abbrev pub node_in : List Node → ℕ → Node
node_in walk k = slice_index_or walk k (state (at_place [] []))

-- a closed walk of demands: no node twice, except that the first is again the last, and a constant of 1 or more
pub record IsClosedWalk (ds : List Demand) (walk : List Node) : Type 0 where
  pub long : 1 < length walk
  pub chain : (k : ℕ) → k + 1 < length walk → (c : ℕ) × Asks ds (node_in walk k) (node_in walk (k + 1)) c
  pub closes : node_in walk 0 ≡ node_in walk (length walk - 1)
  pub once : (j k : ℕ) → j < k → k + 1 < length walk → node_in walk j ≢ node_in walk k
  pub paid : (k c : ℕ) × (k + 1 < length walk) × Asks ds (node_in walk k) (node_in walk (k + 1)) c × (0 < c)
