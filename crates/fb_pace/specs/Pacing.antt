-- Buckets by a clock that does not go back. This project's profile.
use Rattle.std.specs.Prelude.{◌≡◌, ℕ, ◌≤◌, List, [], ◌∷◌, map, Bool}
use Rattle.fb_pace.specs.declared.buckets.Paced.{Paced}
use Rattle.fb_pace.specs.Rates.{AreInOrder}
use Rattle.fb_pace.specs.Buckets.{Ask, after_ask, answers_to_all, bucket_of, moments_of, passes_by}

-- the buckets of peers, and the last moment at which one was asked
pub record Pacing : Type 0 where
  pub peers : List Paced
  pub last : ℕ

-- the peer with a number asks, at the last moment or later, and is answered by its bucket
abbrev pub Asks : Pacing → ℕ → Bool → Pacing → Type 0
Asks p number answer q =
    (now : ℕ) × (p.last ≤ now) × (answer ≡ passes_by (bucket_of number p.peers) now) × (q ≡ record { peers = after_ask number now p.peers; last = now })

-- ---- one after another

-- peers ask, each by its number, and are answered
abbrev pub AsksAll : Pacing → List (ℕ × Bool) → Pacing → Type 0
AsksAll p [] q = q ≡ p
AsksAll p (x ∷ xs) q = (between : Pacing) × Asks p x.0 x.1 between × AsksAll between xs q

-- at these moments they asked, and those of each peer do not go back
pub record AskedAt (p : Pacing) (questions : List (ℕ × Bool)) (asks : List Ask) : Type 0 where
  pub numbers : map (λ ask. ask.number) asks ≡ map (λ x. x.0) questions
  pub answers : answers_to_all p.peers asks ≡ map (λ x. x.1) questions
  pub order : (number : ℕ) → AreInOrder (moments_of number asks)
