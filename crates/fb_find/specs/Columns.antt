-- Columns of numbers, and why there is none.
use Rattle.std.specs.Prelude.{ℕ, ◌≡◌, ◌≤◌, ◌<◌, List, Option, length, map, slice_index, string_bytes}
use Rattle.std.specs.List.{All, Contains}
use Rattle.fb_model.specs.System as book
use Rattle.fb_model.specs.Certificates.{all_leaves}
use Rattle.fb_model.specs.Demands.{Node, Demand}
use Rattle.fb_model.specs.Columns.{MeetAll}
use Rattle.fb_find_graph.specs.Graphs.{IsOrder}
use Rattle.fb_find_graph.specs.Systems.{System, needs}
use Rattle.fb_find_laws.specs.Numbered.{AreLeast, AreNumbers, AreOf}
use Rattle.fb_find_laws.specs.Nodes.{Numbered, AreGrouped, AskForAll}
use Rattle.fb_model.specs.Finding.{IsFirstWalk, asked}
use Rattle.fb_faults.specs.declared.no_bound.NoBound.{NoBound}
use Rattle.fb_faults.specs.declared.no_bound.NoBound.TheVariants.{OutOfMemory, Cycle, NoRange, Limit}
use Rattle.fb_find_rows.specs.Places.{text_at}
use Rattle.fb_model.specs.Finding.{node_of}
use Rattle.fb_find_rows.specs.Faults.{IsResourceIn}
use Rattle.fb_model.specs.Names.{Name}
use Rattle.fb_types_blocks.specs.Views.{names_of}
use Rattle.fb_find_demands.specs.declared.numbered.Numbering.{Numbering}
use Rattle.fb_find_demands.specs.Rights.{numbers_of, numbered}
use Rattle.fb_find.specs.Given.{nodes_in}

-- an order serves the demands: in it each place stands after all that they ask of it
abbrev pub Fulfils : Numbering → List Demand → List ℕ → Type 0
Fulfils n ds order = (system : System) → AreGrouped (length (nodes_in n)) (numbered n ds) system → length system ≡ length (nodes_in n) → IsOrder (needs system) order

-- it serves those of every column of a system, none of which asks for more
abbrev pub FulfilsAll : Option ℕ → Numbering → book.System → List ℕ → Type 0
FulfilsAll repeats n s order = (ds : List Demand) → AskForAll (asked repeats s) ds → Fulfils n ds order

-- these inequalities are the demands by numbers, all of nodes that have numbers, and the order serves them
pub record IsColumn (n : Numbering) (order : List ℕ) (rights : List Numbered) (ds : List Demand) : Type 0 where
  pub are : rights ≡ numbered n ds
  pub nodes_have : AreNumbers (nodes_in n) (numbers_of n)
  pub of_nodes : AreOf (nodes_in n) ds
  pub serves : Fulfils n ds order

-- the least numbers that meet the demands, each within a limit
pub record AreSmallest (n : Numbering) (ds : List Demand) (limit : ℕ) (numbers : List ℕ) : Type 0 where
  pub sized : length numbers ≡ length (nodes_in n)
  pub small : All (λ k. k ≤ limit) numbers
  pub least : AreLeast (nodes_in n) ds (λ x. slice_index numbers (numbers_of n x))

-- the text of a node: that of its row, and of a channel the path of its end
abbrev pub text_of : Numbering → Node → Name
text_of n x = text_at (names_of n.states) (names_of n.events) (map string_bytes n.ends.items) (numbers_of n x)

-- the number of a node of this resource is above the limit in all numbers that meet the demands
pub record IsPast (n : Numbering) (ds : List Demand) (limit : ℕ) (resource : List ℕ) : Type 0 where
  pub node : Node
  pub known : Contains (nodes_in n) node
  pub resource_is : IsResourceIn (text_of n node) resource
  pub above : (y : Node → ℕ) → MeetAll y ds → limit < y node

-- want of memory, or such a resource
abbrev pub IsPastFault : Numbering → List Demand → ℕ → NoBound → Type 0
IsPastFault n ds limit OutOfMemory = Unit {0}
IsPastFault n ds limit (Cycle places) = ⊥
IsPastFault n ds limit (NoRange path) = ⊥
IsPastFault n ds limit (Limit resource) = IsPast n ds limit (string_bytes resource)

-- want of memory, or a closed walk of demands from the first of its nodes on
abbrev pub IsCycle : Option ℕ → book.System → NoBound → Type 0
IsCycle repeats s OutOfMemory = Unit {0}
IsCycle repeats s (Cycle places) = IsFirstWalk (asked repeats s) (all_leaves s.devices) (map node_of places.items)
IsCycle repeats s (NoRange path) = ⊥
IsCycle repeats s (Limit resource) = ⊥
