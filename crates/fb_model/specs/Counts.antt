-- What is said of FOR: the iterations that it takes, and the numbers of its variable.
use Rattle.std.specs.Prelude.{List, [], ◌∷◌, map, ℕ, zero, suc, ◌<◌, ◌≤◌, ◌≡◌, ℤ, pos, negsuc, ◌+ℤ◌, ◌*ℤ◌}
use Rattle.std.specs.Int.Signed.{◌<ℤ◌}
use Rattle.std.specs.List.{range_with_len}
use Rattle.fb_model.specs.Names.{Name}
use Rattle.fb_model.specs.Values.{Values, One}
use Rattle.fb_model.specs.Language.{Outcome, Done, more, after, setting, iteration_count}
use Rattle.fb_model.specs.Spans.{Span}
use Rattle.fb_model.specs.Clear.{taken, left_with}
use Rattle.fb_model.specs.Shapes.{IsIn}

-- a FOR from u to v in steps of k, where bounds in the ranges r and s give n + 1 iterations at most
pub record Taken (r s : Span) (k : ℤ) (n : ℕ) (u v : ℤ) : Type 0 where
  -- each taken number lies in the range for the body
  pub own : (i : ℕ) → i < iteration_count u v k → IsIn (taken r s k (suc n)) (u +ℤ pos i *ℤ k)
  -- the last one lies in the range for afterwards
  pub last : (j : ℕ) (before : Span) → iteration_count u v k ≡ suc j → IsIn (left_with r s k (suc n) before) (u +ℤ pos j *ℤ k)
  -- and where there is no iteration, what the variable had before
  pub none : (before : Span) (w : ℤ) → iteration_count u v k ≡ 0 → IsIn before w → IsIn (left_with r s k (suc n) before) w

-- whether a number is past the last value of a FOR: above it where the steps go up, below it where they go down
abbrev pub IsPast : (k last v : ℤ) → Type 0
IsPast (pos zero) last v = ⊥
IsPast (pos (suc n)) last v = last <ℤ v
IsPast (negsuc n) last v = v <ℤ last

-- n iterations of a FOR in steps of k: the numbers u, u + k, u + 2 k and so on are taken as long as none is past the last value v, and that ends just there
pub record Ends (u v k : ℤ) (n : ℕ) : Type 0 where
  -- no number of a iteration is past the last value
  pub within : (i : ℕ) → i < n → IsPast k v (u +ℤ pos i *ℤ k) → ⊥
  -- the next one is, and so are all further on
  pub beyond : (i : ℕ) → n ≤ i → IsPast k v (u +ℤ pos i *ℤ k)

-- the first n numbers of a FOR from u on in steps of k: u, u + k, u + 2 k and so on
abbrev pub numbers : (u k : ℤ) (n : ℕ) → List ℤ
numbers u k n = map (λ i. u +ℤ pos i *ℤ k) (range_with_len 0 n)

-- a body done with each of these numbers in the variable, one after the other, a step each
abbrev pub with_each : (Values → Outcome) → Name → List ℤ → Values → Outcome
with_each body x [] values = Done values 0
with_each body x (v ∷ vs) values = more 1 (after (body (setting values x (One v))) (with_each body x vs))
