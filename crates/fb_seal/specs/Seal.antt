-- Sealed datagrams. Tags are HMAC of RFC 2104 with SHA-256 of FIPS 180-4; the form is this project's profile.
use Rattle.std.specs.Prelude.{◌≡◌, ℕ, ◌<◌, ◌-◌, ◌^◌, List, [], ◌∷◌, ◌++◌, length, take, map, replicate, bit_xor}
use Rattle.std.specs.Int.{w16, w64, to_be_bytes}
use Rattle.sha2.specs.Sha256.{sha256}

-- ---- tags

-- a key of at most 64 bytes, filled up with zeros to a block of SHA-256, each byte xor a pad (RFC 2104, 2)
abbrev pub padded : List ℕ → ℕ → List ℕ
padded key pad = map (λ b. bit_xor b pad) (key ++ replicate (64 - length key) 0)

-- HMAC-SHA-256 (RFC 2104, 2)
abbrev pub hmac : List ℕ → List ℕ → List ℕ
hmac key message = sha256 (padded key 0x5c ++ sha256 (padded key 0x36 ++ message))

-- its first 16 bytes (RFC 2104, 5)
unfoldable pub tag : List ℕ → List ℕ → List ℕ
tag key bytes = take 16 (hmac key bytes)

-- ---- the sealed form

-- the letter S and the version 1
abbrev pub mark : List ℕ
mark = 83 ∷ 1 ∷ []

-- what stands before a datagram: the mark, the sender's number and the counter, high bytes first
abbrev pub head : ℕ → ℕ → List ℕ
head sender counter = mark ++ (to_be_bytes w16 sender ++ to_be_bytes w64 counter)

-- what a tag is over
abbrev pub body : ℕ → ℕ → List ℕ → List ℕ
body sender counter datagram = head sender counter ++ datagram

-- the body and its tag
abbrev pub sealed : List ℕ → ℕ → ℕ → List ℕ → List ℕ
sealed key sender counter datagram = body sender counter datagram ++ tag key (body sender counter datagram)

-- these bytes are this datagram, sealed under this key by this sender with this counter
pub record Sealed (key : List ℕ) (sender counter : ℕ) (bytes datagram : List ℕ) : Type 0 where
  pub sender_fits : sender < 2 ^ 16
  pub counter_fits : counter < 2 ^ 64
  pub form : bytes ≡ sealed key sender counter datagram
