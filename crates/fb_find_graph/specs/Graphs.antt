-- Places that demand places, as rows: row p lists what place p demands.
use Rattle.std.specs.Prelude.{ℕ, ◌≡◌, ◌≢◌, ◌+◌, ◌-◌, ◌<◌, List, [], length, take, slice_index, slice_index_or}
use Rattle.std.specs.List.{Contains}

abbrev pub row : List (List ℕ) → ℕ → List ℕ
row rows p = slice_index_or rows p []

abbrev pub HasEdge : List (List ℕ) → ℕ → ℕ → Type 0
HasEdge rows p q = Contains (row rows p) q

-- only places are demanded
abbrev pub InRange : List (List ℕ) → Type 0
InRange rows = (p q : ℕ) → HasEdge rows p q → q < length rows

-- each place stands once, after all that it demands
pub record IsOrder (rows : List (List ℕ)) (order : List ℕ) : Type 0 where
  pub known : (k : ℕ) → k < length order → slice_index order k < length rows
  pub before : (k q : ℕ) → k < length order → HasEdge rows (slice_index order k) q → Contains (take k order) q
  pub once : (k : ℕ) → k < length order → Contains (take k order) (slice_index order k) → ⊥
  pub every : (p : ℕ) → p < length rows → Contains order p

-- each place demands the next
abbrev pub IsChain : List (List ℕ) → List ℕ → Type 0
IsChain rows path = (k : ℕ) → k + 1 < length path → HasEdge rows (slice_index path k) (slice_index path (k + 1))

-- a closed walk: no place twice, except that the first is again the last
pub record IsClosed (rows : List (List ℕ)) (walk : List ℕ) : Type 0 where
  pub long : 1 < length walk
  pub chain : IsChain rows walk
  pub closes : slice_index walk 0 ≡ slice_index walk (length walk - 1)
  pub once : (j k : ℕ) → j < k → k + 1 < length walk → slice_index walk j ≢ slice_index walk k
