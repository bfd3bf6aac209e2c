-- What the buckets of peers answer. This project's profile.
use Rattle.std.specs.Prelude.{ℕ, ◌==◌, List, [], ◌∷◌, map, Option, None, Some, Bool, true, if◌then◌else◌}
use Rattle.fb_pace.specs.declared.bucket.Bucket.{Bucket}
use Rattle.fb_pace.specs.declared.buckets.Paced.{Paced}
use Rattle.fb_pace.specs.Bucket.{after, answers, passes}

abbrev pub has_number : ℕ → Paced → Bool
has_number number peer = peer.number == number

-- the bucket of the peer with a number, where it has one
abbrev pub bucket_of : ℕ → List Paced → Option Bucket
bucket_of number [] = None
bucket_of number (peer ∷ peers) = if has_number number peer then Some peer.bucket else bucket_of number peers

-- who has no rate passes
abbrev pub passes_by : Option Bucket → ℕ → Bool
passes_by None now = true
passes_by (Some b) now = passes b now

abbrev pub with_bucket : Paced → Bucket → Paced
with_bucket peer b = record { number = peer.number; bucket = b }

-- the peers once that of a number has asked at a moment: its own bucket alone has changed
abbrev pub after_ask : ℕ → ℕ → List Paced → List Paced
after_ask number now [] = []
after_ask number now (peer ∷ peers) =
    if has_number number peer then with_bucket peer (after peer.bucket now) ∷ peers else peer ∷ after_ask number now peers

-- ---- one after another

-- the peer with a number asks at a moment
pub record Ask : Type 0 where
  pub number : ℕ
  pub moment : ℕ

-- what all are answered, in order
abbrev pub answers_to_all : List Paced → List Ask → List Bool
answers_to_all peers [] = []
answers_to_all peers (ask ∷ asks) = passes_by (bucket_of ask.number peers) ask.moment ∷ answers_to_all (after_ask ask.number ask.moment peers) asks

-- the moments at which one peer asks
abbrev pub moments_of : ℕ → List Ask → List ℕ
moments_of number [] = []
moments_of number (ask ∷ asks) = if ask.number == number then ask.moment ∷ moments_of number asks else moments_of number asks

-- what that one is answered
abbrev pub answers_for : ℕ → List Ask → List Bool → List Bool
answers_for number [] bs = []
answers_for number (ask ∷ asks) [] = []
answers_for number (ask ∷ asks) (b ∷ bs) = if ask.number == number then b ∷ answers_for number asks bs else answers_for number asks bs

-- what a bucket answers by itself, where there is one
abbrev pub answers_by : Option Bucket → List ℕ → List Bool
answers_by None moments = map (λ _. true) moments
answers_by (Some b) moments = answers b moments
