-- What a gate is asked while a sealed link receives. This project's profile.
use Rattle.std.specs.Prelude.{◌≡◌, ℕ, ◌+◌, min, List, [], ◌∷◌, Bool, if◌then◌else◌}
use Rattle.fb_words.specs.Links.{LinkCall, Handed}
use Rattle.fb_seal.specs.declared.link.Dropped.{Dropped}
use Rattle.fb_seal.specs.declared.peers.Peer.{Peer}
use Rattle.fb_seal.specs.Ledger.{Note}
use Rattle.fb_seal.specs.Passing.{Receipt}

-- a gate is asked one question after another, each about the peer with a number, and answers so
abbrev pub Asked : {G : Type 0} → (G → ℕ → Bool → G → Type 0) → G → List (ℕ × Bool) → G → Type 0
Asked lets g [] h = h ≡ g
Asked {G} lets g (x ∷ xs) h = (between : G) × lets g x.0 x.1 between × Asked lets between xs h

-- how many answers are yes
abbrev pub yeses : List (ℕ × Bool) → ℕ
yeses [] = 0
yeses (x ∷ xs) = if x.1 then 1 + yeses xs else yeses xs

-- how many are no
abbrev pub noes : List (ℕ × Bool) → ℕ
noes [] = 0
noes (x ∷ xs) = if x.1 then noes xs else 1 + noes xs

-- how many datagrams are handed on
abbrev pub handed : List LinkCall → ℕ
handed [] = 0
handed (Handed room bytes ∷ calls) = 1 + handed calls
handed (call ∷ calls) = handed calls

-- receives of a link, one after another
abbrev pub ReceivesAll : {L K G : Type 0} → (L → LinkCall → L → Type 0) → (K → Note → Bool → K → Type 0) → (G → ℕ → Bool → G → Type 0) → List Peer → K → G → Dropped → L
    → List LinkCall → List Peer → K → G → Dropped → L → Type 0
ReceivesAll steps writes lets before k g dropped s [] after m h sum t = (after ≡ before) × (m ≡ k) × (h ≡ g) × (sum ≡ dropped) × (t ≡ s)
ReceivesAll {L} {K} {G} steps writes lets before k g dropped s (call ∷ calls) after m h sum t =
    (peers : List Peer) × (n : K) × (i : G) × (more : Dropped) × (u : L) × Receipt steps writes lets before k g dropped s call peers n i more u
    × ReceivesAll steps writes lets peers n i more u calls after m h sum t

-- the gate was asked once for each datagram that is handed on, and answered yes; and once for each that is counted as too fast, and answered no
pub record AsksOfEach {G : Type 0} (lets : G → ℕ → Bool → G → Type 0) (g h : G) (calls : List LinkCall) (before after : Dropped) (questions : List (ℕ × Bool)) : Type 0 where
  pub asked : Asked lets g questions h
  pub passed : yeses questions ≡ handed calls
  pub dropped : after.fast ≡ min (before.fast + noes questions) 18446744073709551615
