-- Who loses nothing at a gate of buckets. This project's profile.
use Rattle.std.specs.Prelude.{◌≡◌, ℕ, List, map, Bool, true, Some}
use Rattle.std.specs.List.{AllByRecursion}
use Rattle.fb_words.specs.Links.{LinkCall}
use Rattle.fb_pace.specs.declared.bucket.Bucket.{Bucket}
use Rattle.fb_pace.specs.Rates.{IsWithin}
use Rattle.fb_pace.specs.Buckets.{Ask, answers_for, bucket_of, moments_of}
use Rattle.fb_pace.specs.Pacing.{AskedAt, Asks, Pacing}
use Rattle.fb_seal.specs.declared.link.Dropped.{Dropped}
use Rattle.fb_seal.specs.Gates.{AsksOfEach}

-- calls of a link, whose gate is asked so; and whoever keeps to its rate from a fresh bucket on is always answered yes
pub record IsFair (p q : Pacing) (calls : List LinkCall) (before after : Dropped) : Type 0 where
  pub questions : List (ℕ × Bool)
  pub each : AsksOfEach Asks p q calls before after questions
  pub asks : List Ask
  pub at : AskedAt p questions asks
  pub fair : (number : ℕ) (b : Bucket) → bucket_of number p.peers ≡ Some b → b.due ≡ 0 → IsWithin b.rate (moments_of number asks)
      → AllByRecursion (λ answer. answer ≡ true) (answers_for number asks (map (λ x. x.1) questions))
