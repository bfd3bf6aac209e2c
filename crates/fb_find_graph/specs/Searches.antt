-- What the search keeps.
use Rattle.std.specs.Prelude.{ℕ, ◌≡◌, ◌+◌, ◌-◌, ◌<◌, ◌≤◌, List, [], ◌∷◌, ◌++◌, length, take, drop, map, slice_index, slice_index_or}
use Rattle.std.specs.List.{Contains}
use Rattle.std.specs.declared.vec.Vec.{Vec}
use Rattle.std.specs.Global.{Global}
use Rattle.fb_find_graph.specs.declared.graph.Mark.{Mark}
use Rattle.fb_find_graph.specs.declared.graph.Mark.TheVariants.{New, Open, Done}
use Rattle.fb_find_graph.specs.declared.graph.Sorted.{Sorted}
use Rattle.fb_find_graph.specs.declared.graph.Sorted.TheVariants.{Order, Walk}
use Rattle.fb_find_graph.specs.Graphs.{row, HasEdge, IsChain, IsOrder, IsClosed}

-- what a list of vectors says
abbrev pub rows_of : List (Vec ℕ Global) → List (List ℕ)
rows_of graph = map (λ v. v.items) graph

abbrev pub mark : List Mark → ℕ → Mark
mark marks p = slice_index_or marks p New

-- the path ends at top
abbrev pub IsLast : List ℕ → ℕ → Type 0
IsLast path top = (k : ℕ) → k + 1 ≡ length path → slice_index path k ≡ top

pub record IsSearching (rows : List (List ℕ)) (marks : List Mark) (path order : List ℕ) : Type 0 where
  pub sized : length marks ≡ length rows
  pub places : (k : ℕ) → k < length path → slice_index path k < length rows
  -- what is on the path is open, and knows where
  pub on_path : (k : ℕ) → k < length path → (seen : ℕ) × (mark marks (slice_index path k) ≡ Open k seen)
  pub opened : (p depth seen : ℕ) → mark marks p ≡ Open depth seen → (depth < length path) × (slice_index path depth ≡ p)
  -- what an open place has seen is done
  pub short : (p depth seen : ℕ) → mark marks p ≡ Open depth seen → seen ≤ length (row rows p)
  pub seen_done : (p depth seen k : ℕ) → mark marks p ≡ Open depth seen → k < seen → mark marks (slice_index (row rows p) k) ≡ Done
  pub chain : IsChain rows path
  -- the order so far
  pub known : (k : ℕ) → k < length order → slice_index order k < length rows
  pub before : (k q : ℕ) → k < length order → HasEdge rows (slice_index order k) q → Contains (take k order) q
  pub once : (k : ℕ) → k < length order → Contains (take k order) (slice_index order k) → ⊥
  pub listed : (p : ℕ) → mark marks p ≡ Done → Contains order p
  pub done : (p : ℕ) → Contains order p → mark marks p ≡ Done

-- what is left to do at a place
abbrev pub weight : ℕ → Mark → ℕ
weight n New = n + 2
weight n (Open depth seen) = n + 1 - seen
weight n Done = 0

abbrev pub work : List (List ℕ) → List Mark → ℕ
work [] marks = 0
work (r ∷ rs) [] = 0
work (r ∷ rs) (m ∷ ms) = weight (length r) m + work rs ms

-- the walk begins at its least place
abbrev pub IsFromLeast : List ℕ → Type 0
IsFromLeast walk = (k : ℕ) → k < length walk → slice_index walk 0 ≤ slice_index walk k

-- a closed walk from its least place on
abbrev pub IsRotated : List ℕ → Vec ℕ Global → Type 0
IsRotated walk rotated = (at : ℕ) × (at + 1 < length walk) × (rotated.items ≡ take (length walk - 1 - at) (drop at walk) ++ take (at + 1) walk) × ((k : ℕ) → k + 1 < length walk → slice_index walk at ≤ slice_index walk k)

-- what the search answers
abbrev pub IsSorted : List (List ℕ) → Sorted → Type 0
IsSorted rows (Order order) = IsOrder rows order.items
IsSorted rows (Walk walk) = IsClosed rows walk.items × IsFromLeast walk.items
