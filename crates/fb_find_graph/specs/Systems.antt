-- Inequalities over places: the number of a place is at least each of its right sides.
use Rattle.std.specs.Prelude.{ℕ, ◌≡◌, ◌≢◌, ◌+◌, ◌-◌, ◌<◌, ◌≤◌, List, [], length, map, slice_index, slice_index_or}
use Rattle.std.specs.List.{Contains, sum_by, flat_map}

-- a right side: a constant, and the numbers of its terms, each as often as it stands there
pub record Inequality : Type 0 where
  pub constant : ℕ
  pub terms : List ℕ

-- the inequalities of each place
abbrev pub System : Type 0
System = List (List Inequality)

abbrev pub inequalities : System → ℕ → List Inequality
inequalities system p = slice_index_or system p []

-- what a right side comes to
abbrev pub asks : (ℕ → ℕ) → Inequality → ℕ
asks x a = a.constant + sum_by x a.terms

-- numbers that fulfil every inequality
abbrev pub Fits : System → (ℕ → ℕ) → Type 0
Fits system x = (p : ℕ) (a : Inequality) → Contains (inequalities system p) a → asks x a ≤ x p

-- numbers that fit, and are place by place at most any that fit
pub record IsLeast (system : System) (x : ℕ → ℕ) : Type 0 where
  pub fits : Fits system x
  pub least : (y : ℕ → ℕ) → Fits system y → (p : ℕ) → x p ≤ y p

-- p has q as a term of a right side with constant k
abbrev pub Demands : System → ℕ → ℕ → ℕ → Type 0
Demands system p q k = (a : Inequality) × Contains (inequalities system p) a × Contains a.terms q × (k ≡ a.constant)

-- terms are places
pub record IsSystem (system : System) : Type 0 where
  pub known : (p q k : ℕ) → Demands system p q k → q < length system

-- of two demands in a row one has a constant of 1 or more
abbrev pub IsPaying : System → Type 0
IsPaying system = (p q r j k : ℕ) → Demands system p q j → Demands system q r k → 0 < j + k

-- a closed walk of demands: no place twice, except that the first is again the last, and a constant of 1 or more
pub record IsClosedWalk (system : System) (walk : List ℕ) : Type 0 where
  pub long : 1 < length walk
  pub chain : (k : ℕ) → k + 1 < length walk → (c : ℕ) × Demands system (slice_index walk k) (slice_index walk (k + 1)) c
  pub closes : slice_index walk 0 ≡ slice_index walk (length walk - 1)
  pub once : (j k : ℕ) → j < k → k + 1 < length walk → slice_index walk j ≢ slice_index walk k
  pub paid : (k c : ℕ) × (k + 1 < length walk) × Demands system (slice_index walk k) (slice_index walk (k + 1)) c × (0 < c)

-- no numbers fit
abbrev pub HasNoFit : System → Type 0
HasNoFit system = (x : ℕ → ℕ) → Fits system x → ⊥

-- what each place demands
abbrev pub needed : List Inequality → List ℕ
needed as' = flat_map (λ a. a.terms) as'

abbrev pub needs : System → List (List ℕ)
needs system = map needed system

-- the greatest of right sides
pub record IsGreatest (x : ℕ → ℕ) (as' : List Inequality) (v : ℕ) : Type 0 where
  pub above : (a : Inequality) → Contains as' a → asks x a ≤ v
  pub least : (m : ℕ) → ((a : Inequality) → Contains as' a → asks x a ≤ m) → v ≤ m

-- the numbers of the places that are done are found, and no other is above what it can be
pub record IsSolving (system : System) (done : List ℕ) (x : ℕ → ℕ) : Type 0 where
  pub fits : (p : ℕ) (a : Inequality) → Contains done p → Contains (inequalities system p) a → asks x a ≤ x p
  pub closed : (p q : ℕ) → Contains done p → Contains (needed (inequalities system p)) q → Contains done q
  pub least : (y : ℕ → ℕ) → Fits system y → (p : ℕ) → x p ≤ y p
