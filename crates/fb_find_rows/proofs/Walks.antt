-- The nodes of a closed walk of places.
use Rattle.std.proofs.Common.{ℕ, zero, suc, ◌≡◌, ◌+◌, ◌-◌, ◌<◌, ◌≤◌, ◌⊎◌, inl, inr, List, [], ◌∷◌, length, slice_index, slice_index_or, refl, subst, arith, Contains}
use Rattle.std.specs.List.{All}
use Rattle.fb_lists.proofs.Lists.{default_free}
use Rattle.fb_find_graph.specs.Graphs.{row, HasEdge, IsClosed}

split : (m n : ℕ) → (m < n) ⊎ (n ≤ m)
split m n = grind arith

past_end : (rows : List (List ℕ)) (p : ℕ) → length rows ≤ p → row rows p ≡ []
past_end [] p h = refl
past_end (r ∷ rows) zero h = absurd (omega (arith, h))
past_end (r ∷ rows) (suc p) h = past_end rows p (omega (arith, h))

from_place : (rows : List (List ℕ)) (p q : ℕ) → HasEdge rows p q → p < length rows
from_place rows p q h = by (split p (length rows)) where
  by : (p < length rows) ⊎ (length rows ≤ p) → p < length rows
  by (inl l) = l
  by (inr l) = absurd (let k = subst (λ (r : List ℕ). Contains r q) (past_end rows p l) h in omega (arith, k.1))

known : (rows : List (List ℕ)) (walk : List ℕ) → IsClosed rows walk → (k : ℕ) → k < length walk → slice_index walk k < length rows
known rows walk c k l = by (split (k + 1) (length walk)) where
  by : (k + 1 < length walk) ⊎ (length walk ≤ k + 1) → slice_index walk k < length rows
  by (inl m) = from_place rows (slice_index walk k) (slice_index walk (k + 1)) (c.chain k m)
  by (inr m) =
      let first = from_place rows (slice_index walk 0) (slice_index walk 1) (c.chain 0 c.long) in
      let e : length walk - 1 ≡ k = omega (arith, l, m) in
      subst (λ (n : ℕ). slice_index walk n < length rows) e (subst (λ (n : ℕ). n < length rows) c.closes first)

pub all_known : (rows : List (List ℕ)) (walk : List ℕ) (count : ℕ) → IsClosed rows walk → length rows ≡ count → All (λ n. n < count) walk
all_known rows walk count c e = λ k d l. let f : slice_index_or walk k d ≡ slice_index walk k = default_free walk k d 0 l in omega (arith, known rows walk c k l, e, f)
