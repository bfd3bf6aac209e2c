-- Nodes by numbers: states in the order of their rows, behind them event inputs and arrivals in the order of theirs, and behind these channels upwards.
-- This project's profile.
use Rattle.std.specs.Prelude.{ℕ, ◌≡◌, ◌+◌, ◌<◌, ◌≤◌, ◌==◌, min, List, [], ◌∷◌, ◌++◌, length, map, Option, if◌then◌else◌}
use Rattle.std.specs.List.{join_with_byte, position_or_len, list_any, flat_map, Contains, IsDistinct}
use Rattle.std.specs.Str.{bytes_eq}
use Rattle.fb_model.specs.Names.{Name, Place, place_eq}
use Rattle.fb_model.specs.Wires.{Leaf}
use Rattle.fb_model.specs.Certificates.{state_places, event_places, channels_of, with_repeats}
use Rattle.fb_model.specs.CertificateText.{place_of}
use Rattle.fb_model.specs.Demands.{Node, state, event, channel, Demand}
use Rattle.fb_find_graph.specs.Systems.{Inequality, System, inequalities}

-- a place as it is written: the names of its path and its own, joined by dots
abbrev pub written : Place → Name
written p = join_with_byte 46 (p.path ++ p.event ∷ [])

-- where a text stands in a list; behind its end where it does not
abbrev pub index_in : List Name → Name → ℕ
index_in texts text = position_or_len (bytes_eq text) texts

-- where a number stands in a list; behind its end where it does not
abbrev pub rank_in : List ℕ → ℕ → ℕ
rank_in numbers n = position_or_len (λ m. n == m) numbers

-- the number of a node, where states and events have these rows, and these are the channels
abbrev pub number : List Name → List Name → List ℕ → Node → ℕ
number states events channels (state p) = index_in states (written p)
number states events channels (event p) = length states + index_in events (written p)
number states events channels (channel c) = length states + (length events + rank_in channels c)

-- the nodes that have numbers, in their order
abbrev pub nodes_of : List Name → List Name → List ℕ → List Node
nodes_of states events channels = map (λ t. state (place_of t)) states ++ (map (λ t. event (place_of t)) events ++ map channel channels)

-- these rows are those of all states and events of leaves, in their order
pub record AreInOrder (all : List Leaf) (states events : List Name) : Type 0 where
  pub states_are : map place_of states ≡ state_places all
  pub events_are : map place_of events ≡ event_places all

-- these rows are those of all states and events of leaves, no two are the same, and with a row REPEATS these are the channels that they name
pub record AreRowsOf (repeats : Option ℕ) (all : List Leaf) (states events : List Name) (channels : List ℕ) : Type 0 where
  pub states_are : (p : Place) → list_any (place_eq p) (map place_of states) ≡ list_any (place_eq p) (state_places all)
  pub events_are : (p : Place) → list_any (place_eq p) (map place_of events) ≡ list_any (place_eq p) (event_places all)
  pub states_apart : IsDistinct bytes_eq states
  pub events_apart : IsDistinct bytes_eq events
  pub channels_are : channels ≡ with_repeats repeats (channels_of all)

-- ---- demands by numbers

-- the first number that stands for all greater ones: more than the steps of any row
abbrev pub capped : ℕ → ℕ
capped n = min n 1000000000001

pub record Numbered : Type 0 where
  pub node : ℕ
  pub constant : ℕ
  pub terms : List ℕ

abbrev pub by_number : (Node → ℕ) → Demand → Numbered
by_number f d = record { node = f d.node; constant = capped d.constant; terms = map f d.terms }

-- those of one place, as inequalities of it
abbrev pub asked_of : ℕ → Numbered → List Inequality
asked_of p r = if r.node == p then record { constant = r.constant; terms = r.terms } ∷ [] else []

abbrev pub asked_at : ℕ → List Numbered → List Inequality
asked_at p rs = flat_map (asked_of p) rs

-- each place has its own
pub record AreGrouped (count : ℕ) (rs : List Numbered) (system : System) : Type 0 where
  pub own : (p : ℕ) → p < count → inequalities system p ≡ asked_at p rs
  pub none : (p : ℕ) → count ≤ p → inequalities system p ≡ []

-- demands with constants as far as they are told apart
abbrev pub capped_demand : Demand → Demand
capped_demand d = record { node = d.node; constant = capped d.constant; terms = d.terms }

-- whatever the second ask of their nodes, the first ask of these too
abbrev pub AskForAll : List Demand → List Demand → Type 0
AskForAll ds es = (e : Demand) (x : Node) → Contains es e → Contains e.terms x → (d : Demand) × Contains ds d × (d.node ≡ e.node) × Contains d.terms x
