-- The names of leaves are words, so they hold no dot.
-- IEC 61131-3 edition 3, 6.1.2 (identifiers); IEC 61499-1 edition 2, 4.5 (instances and their names).
use Rattle.std.specs.Prelude.{◌≡◌, List, [], map}
use Rattle.std.specs.List.{AllByRecursion}
use Rattle.fb_model.specs.Names.{Name, Place}
use Rattle.fb_model.specs.Spelling.{IsWord, upper, AreWords}
use Rattle.fb_model.specs.System.{Procedure, Resource, Device}
use Rattle.fb_model.specs.Wires.{Kind, Charted, Serviced, Leaf, leaves}
use Rattle.fb_model.specs.Store.{variable_names}
use Rattle.fb_model.specs.Ranges.{variables}
use Rattle.fb_model.specs.Certificates.{state_names, events_of}

-- the names of the variables and of the algorithms that a leaf declares
abbrev pub declared_names : Kind → List Name
declared_names (Charted block) = variable_names (variables (Charted block))
declared_names (Serviced service) = []

abbrev pub algorithm_names : Kind → List Name
algorithm_names (Charted block) = map (λ (p : Procedure). p.name) block.procedures
algorithm_names (Serviced service) = []

-- the names of a leaf are words: those of its path, variables, algorithms, states and events, and of the places that its event outputs lead to
pub record IsWordyLeaf (leaf : Leaf) : Type 0 where
  pub path : AreWords leaf.path
  pub variables : AreWords (declared_names leaf.kind)
  pub algorithms : AreWords (algorithm_names leaf.kind)
  pub states : AreWords (state_names leaf.kind)
  pub events : AreWords (events_of leaf.kind)
  pub targets : (o : Name) → AllByRecursion (λ (p : Place). AreWords p.path × IsWord p.event) (leaf.targets o)

-- the same of a device, its resources and its leaves
pub record IsWordyDevice (d : Device) : Type 0 where
  pub name : IsWord d.name
  pub resources : AllByRecursion (λ (r : Resource). IsWord r.name) d.resources
  pub leaves : AllByRecursion IsWordyLeaf (leaves d)

-- ---- in capitals

-- a word that upper case leaves as it is
abbrev pub IsCapital : Name → Type 0
IsCapital n = IsWord n × (upper n ≡ n)

abbrev pub AreCapitals : List Name → Type 0
AreCapitals names = AllByRecursion IsCapital names

-- the names of a leaf are words in capitals: those of its path, variables, algorithms, states and events, and of the places that its event outputs lead to
pub record IsCapitalLeaf (leaf : Leaf) : Type 0 where
  pub path : AreCapitals leaf.path
  pub variables : AreCapitals (declared_names leaf.kind)
  pub algorithms : AreCapitals (algorithm_names leaf.kind)
  pub states : AreCapitals (state_names leaf.kind)
  pub events : AreCapitals (events_of leaf.kind)
  pub targets : (o : Name) → AllByRecursion (λ (p : Place). AreCapitals p.path × IsCapital p.event) (leaf.targets o)

-- the same of a device, its resources and its leaves
pub record IsCapitalDevice (d : Device) : Type 0 where
  pub name : IsCapital d.name
  pub resources : AllByRecursion (λ (r : Resource). IsCapital r.name) d.resources
  pub leaves : AllByRecursion IsCapitalLeaf (leaves d)
