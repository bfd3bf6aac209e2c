-- What is written down of counters before they are used. This project's profile.
use Rattle.std.specs.Prelude.{◌≡◌, ℕ, ◌+◌, ◌<◌, ◌≤◌, min, List, Bool, true, false, None, Some, slice_get}
use Rattle.fb_seal.specs.declared.peers.Peer.{Peer}
use Rattle.fb_seal.specs.Reading.{has_form}
use Rattle.fb_seal.specs.Peers.{allow_at, counter_in, sealer}

-- what is written down: the own counters below a number may be used, or those of the peer at a place
pub data Note : Type 0 where
  Reserves : (upto : ℕ) → Note
  Permits : (place upto : ℕ) → Note

-- so many counters behind one, up to 2^64 - 1
abbrev pub beyond : ℕ → ℕ → ℕ
beyond counter by = min (counter + by) 18446744073709551615

-- the peer at a place may use a counter, or it is to be allowed the next 64 from there on: it is, once that is written down. The last counter of all is none.
pub record ExtendsAt {K : Type 0} (writes : K → Note → Bool → K → Type 0) (before : List Peer) (k : K) (place counter : ℕ) (after : List Peer) (m : K) : Type 0 where
  pub peer : Peer
  pub there : slice_get before place ≡ Some peer
  pub enough : counter < peer.upto → (after ≡ before) × (m ≡ k)
  pub last : 18446744073709551615 ≤ counter → (after ≡ before) × (m ≡ k)
  pub more : peer.upto ≤ counter → counter < 18446744073709551615
      → (done : Bool) × writes k (Permits place (beyond counter 64)) done m
      × (done ≡ true → after ≡ allow_at before place (beyond counter 64)) × (done ≡ false → after ≡ before)

-- bytes come: so it is of the peer that sealed them, and nothing happens if nobody did
pub record Extends {K : Type 0} (writes : K → Note → Bool → K → Type 0) (before : List Peer) (k : K) (bytes : List ℕ) (after : List Peer) (m : K) : Type 0 where
  pub sealed : (place : ℕ) → has_form bytes ≡ true → sealer bytes before ≡ Some place → ExtendsAt writes before k place (counter_in bytes) after m
  pub unformed : has_form bytes ≡ false → (after ≡ before) × (m ≡ k)
  pub unsealed : sealer bytes before ≡ None → (after ≡ before) × (m ≡ k)
