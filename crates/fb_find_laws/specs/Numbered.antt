-- Demands by numbers: nodes are places of a list, and inequalities over them say what the demands say.
use Rattle.std.specs.Prelude.{ℕ, ◌≡◌, ◌<◌, ◌≤◌, List, length, map}
use Rattle.std.specs.List.{Contains, AllByRecursion}
use Rattle.fb_model.specs.Demands.{Node, Demand, IsMet, node_in}
use Rattle.fb_find_graph.specs.Systems.{Inequality, System, inequalities}

-- each node of the list has its place there as its number, and no two have one
pub record AreNumbers (nodes : List Node) (number : Node → ℕ) : Type 0 where
  pub at : (x : Node) → Contains nodes x → (number x < length nodes) × (node_in nodes (number x) ≡ x)
  pub back : (p : ℕ) → p < length nodes → number (node_in nodes p) ≡ p

-- a demand by numbers
abbrev pub inequality : (Node → ℕ) → Demand → Inequality
inequality number d = record { constant = d.constant; terms = map number d.terms }

-- the inequalities of each place are the demands of its node
pub record SaysSame (ds : List Demand) (number : Node → ℕ) (system : System) : Type 0 where
  pub from : (p : ℕ) (a : Inequality) → Contains (inequalities system p) a → (d : Demand) × Contains ds d × (number d.node ≡ p) × (a ≡ inequality number d)
  pub to : (d : Demand) → Contains ds d → Contains (inequalities system (number d.node)) (inequality number d)

-- demands are of these nodes, and ask for these nodes
pub record AreOf (nodes : List Node) (ds : List Demand) : Type 0 where
  pub node : (d : Demand) → Contains ds d → Contains nodes d.node
  pub terms : (d : Demand) (x : Node) → Contains ds d → Contains d.terms x → Contains nodes x

-- numbers that meet all demands, and are node by node at most any that do
pub record AreLeast (nodes : List Node) (ds : List Demand) (x : Node → ℕ) : Type 0 where
  pub meets : AllByRecursion (IsMet x) ds
  pub least : (y : Node → ℕ) → AllByRecursion (IsMet y) ds → (v : Node) → Contains nodes v → x v ≤ y v
