-- The keys of a plant as a file says them: this project's profile.
use Rattle.std.specs.Prelude.{◌≡◌, ℕ, ◌+◌, ◌==◌, nat_le, Bool, List, [], ◌∷◌, ◌++◌, length, slice_index, codes, Option, None, Some, is_some, Result, Ok, Err, option_map, if◌then◌else◌}
use Rattle.std.specs.List.{list_any}
use Rattle.std.specs.Str.{bytes_eq}
use Rattle.std.specs.Str.Lines.{lines}
use Rattle.hex.specs.Hex.{decode_sized}
use Rattle.hex.specs.declared.error.FromHexError.{FromHexError}
use Rattle.fb_model.specs.CertificateText.{words}
use Rattle.fb_addresses.specs.Addresses.{Endpoint, endpoint_in}
use Rattle.fb_numbers.specs.Numbers.{number_in}
use Rattle.fb_pace.specs.declared.rate.Rate.{Rate}
use Rattle.fb_keys.specs.Rates.{per_second, rate_in}
use Rattle.fb_keys.specs.declared.keys.KeysFault.{KeysFault}
use Rattle.fb_keys.specs.declared.keys.KeysFault.TheVariants.{Memory, BadLine, Again, TooMany, NoOwn}

-- ---- words

-- a key: its bytes, or the name of the file that holds its digits
pub data Key : Type 0 where
  digits : (bytes : List ℕ) → Key
  in_file : (name : List ℕ) → Key

-- 64 hexadecimal digits are the key itself
abbrev pub key_by : Result (List ℕ) FromHexError → List ℕ → Key
key_by (Ok bytes) word = digits bytes
key_by (Err e) word = in_file word

abbrev pub key_in : List ℕ → Key
key_in word = key_by (decode_sized word 32) word

-- an address, or `-` where nothing is sent there
abbrev pub address_in : List ℕ → Option (Option Endpoint)
address_in word = if bytes_eq word (codes "-") then Some None else option_map (λ e. Some e) (endpoint_in word)

-- ---- lines

-- what may stand behind the key of a device: a second key beside it, and how often the device may send
pub record Extras : Type 0 where
  pub second : Option Key
  pub rate : Option Rate

abbrev pub extras_with : Option Key → Option (Option Rate) → Option Extras
extras_with second rate = option_map (λ r. record { second = second; rate = r }) rate

-- a word that says how many datagrams a second is no key
abbrev pub extras_in : List (List ℕ) → Option Extras
extras_in [] = extras_with None (Some None)
extras_in (first ∷ more) = if is_some (per_second first) then extras_with None (rate_in (first ∷ more)) else extras_with (Some (key_in first)) (rate_in more)

-- a device of the plant: its number, where it receives, its key, and perhaps a second one beside it, and a rate
pub record PeerLine : Type 0 where
  pub number : ℕ
  pub address : Option Endpoint
  pub key : Key
  pub second : Option Key
  pub rate : Option Rate

abbrev pub peer_with : Option ℕ → Option (Option Endpoint) → Key → Option Extras → Option PeerLine
peer_with (Some number) (Some address) key (Some extras) =
    Some (record { number = number; address = address; key = key; second = extras.second; rate = extras.rate })
peer_with number address key extras = None

-- `2 192.168.0.12:7002 KEY`, perhaps with a second key, and perhaps with a rate
abbrev pub peer_in : List (List ℕ) → Option PeerLine
peer_in (number ∷ address ∷ key ∷ more) = peer_with (number_in number) (address_in address) (key_in key) (extras_in more)
peer_in ws = None

-- what a line says: nothing, this device's number, or a device
pub data Line : Type 0 where
  Blank : Line
  Own : (number : ℕ) → Line
  Peer : PeerLine → Line

-- `own 3`
abbrev pub own_in : List (List ℕ) → Option Line
own_in (number ∷ []) = option_map Own (number_in number)
own_in ws = None

abbrev pub is_comment : List ℕ → Bool
is_comment word = slice_index word 0 == 35

abbrev pub line_in : List (List ℕ) → Option Line
line_in [] = Some Blank
line_in (first ∷ rest) =
    if is_comment first then Some Blank else (if bytes_eq first (codes "own") then own_in rest else option_map Peer (peer_in (first ∷ rest)))

-- ---- the file

-- what is read so far
pub record Read : Type 0 where
  pub own : Option ℕ
  pub peers : List PeerLine

abbrev pub has_number : ℕ → List PeerLine → Bool
has_number number peers = list_any (λ p. p.number == number) peers

-- with what the line of this number says: each number is said once, this device's once, and there are 64 devices at most
abbrev pub with_line : ℕ → Read → Option Line → Result Read KeysFault
with_line n r None = Err (BadLine n)
with_line n r (Some Blank) = Ok r
with_line n r (Some (Own number)) = if is_some r.own then Err (Again n) else Ok (record { own = Some number; peers = r.peers })
with_line n r (Some (Peer peer)) =
    if has_number peer.number r.peers then Err (Again n)
    else (if nat_le 64 (length r.peers) then Err (TooMany n) else Ok (record { own = r.own; peers = r.peers ++ peer ∷ [] }))

-- the lines from this number on
abbrev pub lines_from : ℕ → Result Read KeysFault → List (List ℕ) → Result Read KeysFault
lines_from n r [] = r
lines_from n (Ok r) (line ∷ lines) = lines_from (n + 1) (with_line n r (line_in (words line))) lines
lines_from n (Err f) (line ∷ lines) = Err f

-- the devices of a plant, and which of them this one is
pub record Keys : Type 0 where
  pub own : ℕ
  pub peers : List PeerLine

-- this device is one of those that have a line
abbrev pub owned : Option ℕ → List PeerLine → Result Keys KeysFault
owned None peers = Err NoOwn
owned (Some own) peers = if has_number own peers then Ok (record { own = own; peers = peers }) else Err NoOwn

abbrev pub whole : Result Read KeysFault → Result Keys KeysFault
whole (Ok r) = owned r.own r.peers
whole (Err f) = Err f

-- what a text says
abbrev pub keys_in : List ℕ → Result Keys KeysFault
keys_in text = whole (lines_from 1 (Ok (record { own = None; peers = [] })) (lines text))

-- ---- what the code answers

-- it is this, or memory ran out
abbrev pub Gives : {A B : Type 0} → (A → B) → Result A KeysFault → Result B KeysFault → Type 0
Gives view (Ok a) said = said ≡ Ok (view a)
Gives view (Err Memory) said = Unit {0}
Gives view (Err (BadLine n)) said = said ≡ Err (BadLine n)
Gives view (Err (Again n)) said = said ≡ Err (Again n)
Gives view (Err (TooMany n)) said = said ≡ Err (TooMany n)
Gives view (Err NoOwn) said = said ≡ Err NoOwn

-- the same where what was made stands elsewhere
abbrev pub Makes : {B : Type 0} → B → Result (Unit {0}) KeysFault → Result B KeysFault → Type 0
Makes made answer said = Gives (λ _. made) answer said

-- ---- what is made of it

abbrev pub before : Option Endpoint → List Endpoint → List Endpoint
before None more = more
before (Some address) more = address ∷ more

-- where a device sends: to each other one that has an address, in order
abbrev pub sent_to : ℕ → List PeerLine → List Endpoint
sent_to own [] = []
sent_to own (peer ∷ peers) = if peer.number == own then sent_to own peers else before peer.address (sent_to own peers)
