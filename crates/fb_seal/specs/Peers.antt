-- What becomes of bytes that come to one who has peers: each has a number, a key and a window. This project's profile.
use Rattle.std.specs.Prelude.{◌≡◌, ◌⊎◌, ℕ, zero, suc, ◌+◌, ◌<◌, ◌≤◌, max, nat_le, List, [], ◌∷◌, slice_get, slice_set, Option, None, Some}
use Rattle.std.specs.Prelude.{Bool, true, false, ◌==◌, ◌&&◌, bytes_eq, if◌then◌else◌}
use Rattle.std.specs.List.{AllZip, list_any, position_from}
use Rattle.fb_seal.specs.declared.peers.Peer.{Peer}
use Rattle.fb_seal.specs.declared.peers.Reason.{Reason}
use Rattle.fb_seal.specs.declared.peers.Reason.TheVariants.{NotSealed, Stranger, Forged, Stale, Ahead, Fast}
use Rattle.fb_seal.specs.declared.window.Window.{Window}
use Rattle.fb_seal.specs.Seal.{Sealed}
use Rattle.fb_seal.specs.Reading.{body_of, envelope_in, has_form, is_tagged}
use Rattle.fb_seal.specs.Window.{is_beside, takes}

-- who bytes of the sealed form say that they are of, and their counter
abbrev pub sender_in : List ℕ → ℕ
sender_in bytes = (envelope_in (body_of bytes)).sender

abbrev pub counter_in : List ℕ → ℕ
counter_in bytes = (envelope_in (body_of bytes)).counter

-- a peer has this number
abbrev pub is_known : List Peer → ℕ → Bool
is_known peers sender = list_any (λ peer. peer.number == sender) peers

-- a peer has this number, and the tag is right under its key
abbrev pub has_sealed : List ℕ → ℕ → Peer → Bool
has_sealed bytes sender peer = peer.number == sender && is_tagged peer.key bytes

-- the place of the first peer who sealed these bytes
abbrev pub sealer : List ℕ → List Peer → Option ℕ
sealer bytes peers = position_from (has_sealed bytes (sender_in bytes)) 0 peers

-- the counter of the peer at a place is fresh, and below those that it may not use yet, and is taken then
pub record TakesAt (before : List Peer) (place counter : ℕ) (after : List Peer) : Type 0 where
  pub peer : Peer
  pub window : Window
  pub there : slice_get before place ≡ Some peer
  pub allowed : counter < peer.upto
  pub fresh : takes peer.window counter ≡ true
  pub taken : (other : ℕ) → takes window other ≡ is_beside counter other && takes peer.window other
  pub kept : after ≡ slice_set before place (record peer { window = window })

-- why a counter of a peer is not taken
abbrev pub IsNotTaken : Reason → Peer → ℕ → Type 0
IsNotTaken Stale peer counter = takes peer.window counter ≡ false
IsNotTaken Ahead peer counter = peer.upto ≤ counter
IsNotTaken reason peer counter = ⊥

-- the counter of the peer at a place is not taken, and nothing changes
pub record RefusesAt (reason : Reason) (before : List Peer) (place counter : ℕ) (after : List Peer) : Type 0 where
  pub peer : Peer
  pub there : slice_get before place ≡ Some peer
  pub why : IsNotTaken reason peer counter
  pub kept : after ≡ before

-- these bytes are this datagram, sealed by a peer, and their counter was fresh and is taken
pub record Admits (before : List Peer) (bytes datagram : List ℕ) (after : List Peer) : Type 0 where
  pub place : ℕ
  pub counter : ℕ
  pub first : sealer bytes before ≡ Some place
  pub takes_it : TakesAt before place counter after
  pub is_sealed : Sealed takes_it.peer.key takes_it.peer.number counter bytes datagram

-- the first peer who sealed these bytes does not take their counter
abbrev pub IsUntaken : Reason → List Peer → List ℕ → Type 0
IsUntaken reason peers bytes = (place : ℕ) × (sealer bytes peers ≡ Some place) × RefusesAt reason peers place (counter_in bytes) peers

-- they have not the sealed form; or no peer has the number; or none with that number has sealed them; or their counter is not taken. How often their sender may
-- send is not asked here.
abbrev pub IsRefused : Reason → List Peer → List ℕ → Type 0
IsRefused NotSealed peers bytes = has_form bytes ≡ false
IsRefused Stranger peers bytes = (has_form bytes ≡ true) × (is_known peers (sender_in bytes) ≡ false)
IsRefused Forged peers bytes = (has_form bytes ≡ true) × (is_known peers (sender_in bytes) ≡ true) × (sealer bytes peers ≡ None)
IsRefused Stale peers bytes = (has_form bytes ≡ true) × IsUntaken Stale peers bytes
IsRefused Ahead peers bytes = (has_form bytes ≡ true) × IsUntaken Ahead peers bytes
IsRefused Fast peers bytes = ⊥

-- ---- one after another

-- what happens to one who has peers: bytes come, a restart, or a peer may use more counters
pub data Event : Type 0 where
  Comes : (bytes : List ℕ) → Event
  Restarts : Event
  Allows : (place upto : ℕ) → Event

-- a peer after a restart: what was allowed before is taken no more
pub record IsRestarted (before after : Peer) : Type 0 where
  pub number : after.number ≡ before.number
  pub key : after.key ≡ before.key
  pub upto : before.upto ≤ after.upto
  pub window : (other : ℕ) → takes after.window other ≡ nat_le after.upto other

-- a peer that may use the counters below this one
abbrev pub allowed : ℕ → Peer → Peer
allowed upto peer = record peer { upto = max peer.upto upto }

abbrev pub allow_at : List Peer → ℕ → ℕ → List Peer
allow_at [] place upto = []
allow_at (peer ∷ peers) zero upto = allowed upto peer ∷ peers
allow_at (peer ∷ peers) (suc place) upto = peer ∷ allow_at peers place upto

-- in a run of these events these bytes are admitted
abbrev pub Run : List Peer → List Event → List (List ℕ) → List Peer → Type 0
Run before [] admitted after = (admitted ≡ []) × (after ≡ before)
Run before (Comes bytes ∷ more) admitted after =
    ((datagram : List ℕ) × (between : List Peer) × (rest : List (List ℕ)) × Admits before bytes datagram between
    × (admitted ≡ bytes ∷ rest) × Run between more rest after)
    ⊎ ((reason : Reason) × IsRefused reason before bytes × Run before more admitted after)
Run before (Restarts ∷ more) admitted after = (between : List Peer) × AllZip IsRestarted before between × Run between more admitted after
Run before (Allows place upto ∷ more) admitted after = Run (allow_at before place upto) more admitted after

-- how often bytes stand in a list
abbrev pub occurrences : List ℕ → List (List ℕ) → ℕ
occurrences bytes [] = 0
occurrences bytes (first ∷ more) = if bytes_eq first bytes then 1 + occurrences bytes more else occurrences bytes more
