-- What a look at one step of a walk says.
use Rattle.std.specs.Prelude.{ℕ, ◌≡◌, ◌+◌, ◌<◌, ◌≤◌, ◌≢◌, max, length, slice_index, slice_index_or, List, Option, None, Some, Bool, true, false}
use Rattle.std.specs.List.{Contains}
use Rattle.fb_find_graph.specs.Systems.{Inequality, System, Demands}

-- a right side of these has q as a term, with constant k
abbrev pub Asks : List Inequality → ℕ → ℕ → Type 0
Asks as' q k = (a : Inequality) × Contains as' a × Contains a.terms q × (k ≡ a.constant)

abbrev pub IsGreatestDemand : List Inequality → ℕ → Option ℕ → Type 0
IsGreatestDemand as' q None = (k : ℕ) → Asks as' q k → ⊥
IsGreatestDemand as' q (Some c) = Asks as' q c × ((k : ℕ) → Asks as' q k → k ≤ c)

abbrev pub greater_of : Option ℕ → ℕ → ℕ
greater_of None k = k
greater_of (Some c) k = max c k

-- each place demands the next, and one with a constant of 1 or more
pub record IsPaidChain (system : System) (walk : List ℕ) : Type 0 where
  pub chain : (k : ℕ) → k + 1 < length walk → (c : ℕ) × Demands system (slice_index walk k) (slice_index walk (k + 1)) c
  pub paid : (k c : ℕ) × (k + 1 < length walk) × Demands system (slice_index walk k) (slice_index walk (k + 1)) c × (0 < c)

-- the first n steps of a walk
pub record IsPaidSoFar (system : System) (walk : List ℕ) (n : ℕ) (paid : Bool) : Type 0 where
  pub chain : (k : ℕ) → k < n → (c : ℕ) × Demands system (slice_index walk k) (slice_index walk (k + 1)) c
  pub yes : paid ≡ true → (k c : ℕ) × (k < n) × Demands system (slice_index walk k) (slice_index walk (k + 1)) c × (0 < c)
  pub no : paid ≡ false → (k c : ℕ) → k < n → Demands system (slice_index walk k) (slice_index walk (k + 1)) c → c ≡ 0

-- places of so many, none twice
pub record AreApart (count : ℕ) (places : List ℕ) : Type 0 where
  pub known : (k : ℕ) → k < length places → slice_index places k < count
  pub once : (j k : ℕ) → j < k → k < length places → slice_index places j ≢ slice_index places k

-- of the first n places none is out of range or stands twice, and they are those that were seen
pub record AreSeen (count : ℕ) (places : List ℕ) (n : ℕ) (seen : List Bool) : Type 0 where
  pub sized : length seen ≡ count
  pub known : (k : ℕ) → k < n → slice_index places k < count
  pub once : (k : ℕ) → k < n → (j : ℕ) → j < k → slice_index places j ≢ slice_index places k
  pub marked : (k : ℕ) → k < n → slice_index_or seen (slice_index places k) false ≡ true
  pub only : (p : ℕ) → slice_index_or seen p false ≡ true → (k : ℕ) × (k < n) × (slice_index places k ≡ p)
