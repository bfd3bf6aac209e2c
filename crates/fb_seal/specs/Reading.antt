-- What bytes say that may be a sealed datagram. This project's profile.
use Rattle.std.specs.Prelude.{ℕ, ◌<◌, ◌-◌, nat_le, List, length, take, drop, Bool, ◌&&◌, if◌then◌else◌, bytes_eq}
use Rattle.std.specs.Int.{w16, w64, from_be_bytes}
use Rattle.std.specs.List.{AllByRecursion}
use Rattle.fb_seal.specs.Seal.{mark, tag}
use Rattle.fb_seal.specs.declared.form.Envelope as code
use Rattle.fb_seal.specs.declared.form.Opened as opened
use Rattle.fb_seal.specs.declared.form.Opened.TheVariants as case

-- a sealed datagram without its tag
pub record Envelope : Type 0 where
  pub sender : ℕ
  pub counter : ℕ
  pub datagram : List ℕ

-- all but the tag, and the tag
abbrev pub body_of : List ℕ → List ℕ
body_of bytes = take (length bytes - 16) bytes

abbrev pub tag_of : List ℕ → List ℕ
tag_of bytes = drop (length bytes - 16) bytes

-- the mark is there, and room for the sender's number and the counter
abbrev pub has_head : List ℕ → Bool
has_head body = nat_le 12 (length body) && bytes_eq (take 2 body) mark

-- room for all fields, and the mark
abbrev pub has_form : List ℕ → Bool
has_form bytes = nat_le 16 (length bytes) && has_head (body_of bytes)

-- what a body says, whoever wrote it
abbrev pub envelope_in : List ℕ → Envelope
envelope_in body = record {
  sender = from_be_bytes w16 (take 2 (drop 2 body));
  counter = from_be_bytes w64 (take 8 (drop 4 body));
  datagram = drop 12 body;
}

-- the tag is that of the body under this key
abbrev pub is_tagged : List ℕ → List ℕ → Bool
is_tagged key bytes = bytes_eq (tag key (body_of bytes)) (tag_of bytes)

-- what bytes are under a key
pub data Reading : Type 0 where
  Unsealed : Reading
  Untrue : Reading
  Says : Envelope → Reading

abbrev pub reading : List ℕ → List ℕ → Reading
reading key bytes = if has_form bytes then (if is_tagged key bytes then Says (envelope_in (body_of bytes)) else Untrue) else Unsealed

abbrev pub AreBytes : List ℕ → Type 0
AreBytes bytes = AllByRecursion (λ b. b < 256) bytes

-- ---- the same of the code's types

abbrev pub envelope_of : code.Envelope → Envelope
envelope_of e = record { sender = e.sender; counter = e.counter; datagram = e.datagram.now }

abbrev pub reading_of : opened.Opened → Reading
reading_of case.NotSealed = Unsealed
reading_of case.Forged = Untrue
reading_of (case.Message e) = Says (envelope_of e)
