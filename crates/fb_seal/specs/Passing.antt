-- What a sealed link asks of the link below it, and what it makes of the answers. This project's profile.
use Rattle.std.specs.Prelude.{◌≡◌, ◌⊎◌, ℕ, ◌+◌, ◌<◌, ◌≤◌, min, nat_lt, nat_le, List, [], ◌∷◌, length, take, Bool, true, false, ◌&&◌}
use Rattle.fb_words.specs.Links.{LinkCall, Handed, Silent, Broken, Sent}
use Rattle.fb_link.specs.Socket.{IsNoCall}
use Rattle.fb_seal.specs.declared.link.Dropped.{Dropped}
use Rattle.fb_seal.specs.declared.peers.Peer.{Peer}
use Rattle.fb_seal.specs.declared.peers.Reason.{Reason}
use Rattle.fb_seal.specs.declared.peers.Reason.TheVariants.{NotSealed, Stranger, Forged, Stale, Ahead, Fast}
use Rattle.fb_seal.specs.Seal.{sealed}
use Rattle.fb_seal.specs.Peers.{Admits, IsRefused, sender_in}
use Rattle.fb_seal.specs.Ledger.{Note, Reserves, Extends, beyond}

-- what a sealed link has beside the link below it and its count of failures
pub record Own : Type 0 where
  pub number : ℕ
  pub key : List ℕ
  pub next : ℕ
  pub reserved : ℕ
  pub peers : List Peer
  pub dropped : Dropped

-- ---- sends

-- it has a counter left, and the datagram is not too long
abbrev pub can_send : Own → List ℕ → Bool
can_send o bytes = nat_lt o.next o.reserved && nat_le (length bytes) 160

-- before a send: a counter is left, or 65,536 more are written down, and may be used once they are
pub record Refills {K : Type 0} (writes : K → Note → Bool → K → Type 0) (o : Own) (k : K) (p : Own) (m : K) : Type 0 where
  pub left : o.next < o.reserved → (p ≡ o) × (m ≡ k)
  pub more : o.reserved ≤ o.next
      → (done : Bool) × writes k (Reserves (beyond o.next 65536)) done m
      × (done ≡ true → p ≡ record o { reserved = beyond o.next 65536 }) × (done ≡ false → p ≡ o)

-- then a datagram is sealed with the next counter and sent once, or the send is refused, and nothing is sent
pub record Sends {L K : Type 0} (steps : L → LinkCall → L → Type 0) (writes : K → Note → Bool → K → Type 0) (o : Own) (k : K) (s : L) (bytes : List ℕ) (ok : Bool)
    (p : Own) (m : K) (t : L) : Type 0 where
  pub filled : Own
  pub refills : Refills writes o k filled m
  pub done : can_send filled bytes ≡ true → steps s (Sent (sealed filled.key filled.number filled.next bytes) ok) t × (p ≡ record filled { next = filled.next + 1 })
  pub refused : can_send filled bytes ≡ false → (ok ≡ false) × (t ≡ s) × (p ≡ filled)

-- ---- receives

-- one more, up to 2^64 - 1
abbrev pub more : ℕ → ℕ
more n = min (n + 1) 18446744073709551615

abbrev pub count : Dropped → Reason → Dropped
count d NotSealed = record d { not_sealed = more d.not_sealed }
count d Stranger = record d { strangers = more d.strangers }
count d Forged = record d { forged = more d.forged }
count d Stale = record d { stale = more d.stale }
count d Ahead = record d { ahead = more d.ahead }
count d Fast = record d { fast = more d.fast }

abbrev pub counted : Dropped → List Reason → Dropped
counted d [] = d
counted d (reason ∷ reasons) = counted (count d reason) reasons

-- bytes are handed on: they are admitted, and the gate, which is asked once, lets their sender pass
abbrev pub IsTaken : {G : Type 0} → (G → ℕ → Bool → G → Type 0) → List Peer → G → List ℕ → List ℕ → List Peer → G → Type 0
IsTaken lets before g bytes datagram after h = Admits before bytes datagram after × lets g (sender_in bytes) true h

-- bytes are dropped: they are refused, and the gate is not asked; or they are admitted, and the gate, which is asked once, does not let their sender pass
abbrev pub IsLost : {G : Type 0} → (G → ℕ → Bool → G → Type 0) → Reason → List Peer → G → List ℕ → List Peer → G → Type 0
IsLost lets Fast before g bytes after h = (datagram : List ℕ) × Admits before bytes datagram after × lets g (sender_in bytes) false h
IsLost lets reason before g bytes after h = IsRefused reason before bytes × (after ≡ before) × (h ≡ g)

-- one receive after another, each of bytes that are dropped, for these reasons
abbrev pub Drops : {L K G : Type 0} → (L → LinkCall → L → Type 0) → (K → Note → Bool → K → Type 0) → (G → ℕ → Bool → G → Type 0) → List Peer → K → G → List Reason → L
    → List Peer → K → G → L → Type 0
Drops steps writes lets before k g [] s after m h t = (s ≡ t) × (after ≡ before) × (m ≡ k) × (h ≡ g)
Drops {L} {K} {G} steps writes lets before k g (reason ∷ reasons) s after m h t =
    (bytes : List ℕ) × (u : L) × (extended : List Peer) × (n : K) × (mid : List Peer) × (i : G) × steps s (Handed 188 bytes) u × Extends writes before k bytes extended n
    × IsLost lets reason extended g bytes mid i × Drops steps writes lets mid n i reasons u after m h t

-- the receive behind so many: bytes that are admitted and pass the gate are handed on, as far as there is room; or none are there; or the receive fails; or
-- sixteen were dropped
abbrev pub Receives : {L K G : Type 0} → (L → LinkCall → L → Type 0) → (K → Note → Bool → K → Type 0) → (G → ℕ → Bool → G → Type 0) → List Peer → K → G → ℕ → L → LinkCall
    → List Peer → K → G → L → Type 0
Receives steps writes lets before k g n s (Handed room bytes) after m h t =
    (n < 16) × (raw : List ℕ) × (datagram : List ℕ) × (extended : List Peer) × steps s (Handed 188 raw) t × Extends writes before k raw extended m
    × IsTaken lets extended g raw datagram after h × (bytes ≡ take room datagram)
Receives steps writes lets before k g n s Silent after m h t =
    (after ≡ before) × (m ≡ k) × (h ≡ g) × (((n ≡ 16) × (s ≡ t)) ⊎ ((n < 16) × steps s Silent t))
Receives steps writes lets before k g n s Broken after m h t = (after ≡ before) × (m ≡ k) × (h ≡ g) × (n < 16) × steps s Broken t
Receives steps writes lets before k g n s (Sent bytes ok) after m h t = ⊥

-- a receive: it drops what is refused or comes too fast, sixteen at most, counts it by its reason, and hands on none of it
pub record Receipt {L K G : Type 0} (steps : L → LinkCall → L → Type 0) (writes : K → Note → Bool → K → Type 0) (lets : G → ℕ → Bool → G → Type 0) (before : List Peer) (k : K)
    (g : G) (dropped : Dropped) (s : L) (call : LinkCall) (after : List Peer) (m : K) (h : G) (sum : Dropped) (t : L) : Type 0 where
  pub reasons : List Reason
  pub mid : List Peer
  pub ledger : K
  pub gate : G
  pub between : L
  pub drops : Drops steps writes lets before k g reasons s mid ledger gate between
  pub received : Receives steps writes lets mid ledger gate (length reasons) between call after m h t
  pub counts : sum ≡ counted dropped reasons

-- ---- links

-- what the link below does in a call, what is written down, what the gate is asked, and what becomes of the peers and the counts. For a send no gate is asked.
abbrev pub Passes : {L K G : Type 0} → (L → LinkCall → L → Type 0) → (K → Note → Bool → K → Type 0) → (G → ℕ → Bool → G → Type 0) → Own → K → G → L → LinkCall
    → Own → K → G → L → Type 0
Passes steps writes lets o k g s (Sent bytes ok) p m h t = Sends steps writes o k s bytes ok p m t × (h ≡ g)
Passes steps writes lets o k g s call p m h t =
    Receipt steps writes lets o.peers k g o.dropped s call p.peers m h p.dropped t × (p ≡ record o { peers = p.peers; dropped = p.dropped })

-- a call of a sealed link of which so many calls have failed
pub record SealedStep {L K G : Type 0} (steps : L → LinkCall → L → Type 0) (writes : K → Note → Bool → K → Type 0) (lets : G → ℕ → Bool → G → Type 0) (failures : ℕ) (o : Own)
    (k : K) (g : G) (s : L) (call : LinkCall) (p : Own) (m : K) (h : G) (t : L) : Type 0 where
  pub passes : failures < 18446744073709551615 → Passes steps writes lets o k g s call p m h t
  -- a link whose count of failures can rise no more leaves the one below alone
  pub spent : 18446744073709551615 ≤ failures → IsNoCall call × (t ≡ s) × (p ≡ o) × (m ≡ k) × (h ≡ g)
