-- Records: what came to a device, a line a turn. This project's profile.
use Rattle.std.specs.Prelude.{ℕ, ◌≤◌, ◌<◌, ◌∷◌, [], ◌++◌, nat_le, nat_lt, List, length, Bool, true, false, ◌≡◌, ◌&&◌, ◌==◌, Option, None, Some, Result, Ok, Err, codes, if◌then◌else◌, flat_map}
use Rattle.std.specs.Fmt.{decimal}
use Rattle.std.specs.List.{AllByRecursion}
use Rattle.std.specs.Option.{option_map, option_and_then}
use Rattle.std.specs.Str.{bytes_eq}
use Rattle.fb_numbers.specs.Numbers.{long_number_in, wide_number_in}
use Rattle.hex.specs.Hex.{IsBytes, encode_lower, decode_of}
use Rattle.hex.specs.declared.error.FromHexError.{FromHexError}
use Rattle.sha2.specs.Sha256.{sha256}

-- ---- a turn

-- what came to a device in a turn: the moment in milliseconds, the datagrams, and whether a receive failed behind them
pub record Entry : Type 0 where
  pub now : ℕ
  pub datagrams : List (List ℕ)
  pub down : Bool

-- a datagram as a word: two digits for each byte, or `-` where it has none
abbrev pub word_of : List ℕ → List ℕ
word_of [] = codes "-"
word_of (b ∷ bs) = encode_lower (b ∷ bs)

-- such words, each behind a space
abbrev pub words_text : List (List ℕ) → List ℕ
words_text datagrams = flat_map (λ d. 32 ∷ word_of d) datagrams

-- `turn 12304`
abbrev pub start_text : ℕ → List ℕ
start_text now = codes "turn " ++ decimal now

-- ` down`, where a receive failed
abbrev pub end_text : Bool → List ℕ
end_text down = if down then codes " down" else []

-- `turn 12304 46420101 -`
abbrev pub line_of : Entry → List ℕ
line_of e = start_text e.now ++ (words_text e.datagrams ++ end_text e.down)

-- ---- what a line says

-- bytes that are no more than a turn takes of a datagram
abbrev pub short_in : Result (List ℕ) FromHexError → Option (List ℕ)
short_in (Ok bytes) = if nat_le (length bytes) 160 then Some bytes else None
short_in (Err e) = None

-- the datagram that a word writes
abbrev pub datagram_in : List ℕ → Option (List ℕ)
datagram_in word = if bytes_eq word (codes "-") then Some [] else short_in (decode_of word)

-- the datagrams of a turn, and whether a receive failed
pub record Came : Type 0 where
  pub datagrams : List (List ℕ)
  pub down : Bool

abbrev pub nothing_came : Bool → Came
nothing_came down = record { datagrams = []; down = down }

-- with these before
abbrev pub after : List (List ℕ) → Came → Came
after ds came = record { datagrams = ds ++ came.datagrams; down = came.down }

abbrev pub with_first : Option (List ℕ) → Option Came → Option Came
with_first (Some d) came = option_map (after (d ∷ [])) came
with_first None came = None

-- what these words say has come
abbrev pub came_in : List (List ℕ) → Option Came
came_in [] = Some (nothing_came false)
came_in (word ∷ words) =
    if bytes_eq word (codes "down") && (length words == 0) then Some (nothing_came true) else with_first (datagram_in word) (came_in words)

-- no more than a turn takes: sixteen datagrams, and fewer where a receive failed behind them
abbrev pub is_within : ℕ → Bool → Bool
is_within count down = if down then nat_lt count 16 else nat_le count 16

abbrev pub is_few : Came → Bool
is_few came = is_within (length came.datagrams) came.down

abbrev pub few_in : Came → Option Came
few_in came = if is_few came then Some came else None

abbrev pub entry_with : Option ℕ → Option Came → Option Entry
entry_with (Some now) (Some came) = Some (record { now = now; datagrams = came.datagrams; down = came.down })
entry_with now came = None

abbrev pub turn_in : List ℕ → List (List ℕ) → Option Entry
turn_in now words = entry_with (wide_number_in now) (option_and_then few_in (came_in words))

-- the turn that the words of a line say
abbrev pub entry_in : List (List ℕ) → Option Entry
entry_in [] = None
entry_in (verb ∷ []) = None
entry_in (verb ∷ now ∷ words) = if bytes_eq verb (codes "turn") then turn_in now words else None

-- no more came than a turn takes: sixteen datagrams, fewer where a receive failed behind them, and none that is longer than 160 bytes
pub record IsPlayable (e : Entry) : Type 0 where
  pub few : is_within (length e.datagrams) e.down ≡ true
  pub short : AllByRecursion (λ d. length d ≤ 160) e.datagrams

-- what a turn can be: its numbers are of 64 bits and of 8, and no more came than a turn takes
pub record IsEntry (e : Entry) : Type 0 where
  pub clock : e.now < 18446744073709551616
  pub short : AllByRecursion (λ d. length d ≤ 160) e.datagrams
  pub bytes : AllByRecursion IsBytes e.datagrams
  pub few : is_within (length e.datagrams) e.down ≡ true

-- ---- whose turns they are

-- the first line of a record: `fbr-record 1`, the name of the device, its boot, and the SHA-256 of its application and of its certificate
pub record Head : Type 0 where
  pub device : List ℕ
  pub boot : ℕ
  pub app : List ℕ
  pub cert : List ℕ

-- the SHA-256 of a text, in digits
abbrev pub encoded : List ℕ → List ℕ
encoded text = encode_lower (sha256 text)

abbrev pub words_line : List ℕ → ℕ → List ℕ → List ℕ → List ℕ
words_line device boot app cert = (((codes "fbr-record 1 " ++ device ++ codes " " ++ decimal boot ++ codes " ") ++ app) ++ codes " ") ++ cert

-- that of a device of two texts
abbrev pub head_text : List ℕ → ℕ → List ℕ → List ℕ → List ℕ
head_text device boot app cert = words_line device boot (encoded app) (encoded cert)

abbrev pub head_with : List ℕ → Option ℕ → List ℕ → List ℕ → Option Head
head_with device (Some boot) app cert = Some (record { device = device; boot = boot; app = app; cert = cert })
head_with device None app cert = None

-- what the words of a first line say
abbrev pub head_in : List (List ℕ) → Option Head
head_in (magic ∷ version ∷ device ∷ boot ∷ app ∷ cert ∷ []) =
    if bytes_eq magic (codes "fbr-record") && bytes_eq version (codes "1") then head_with device (long_number_in boot) app cert else None
head_in words = None

-- a word is the SHA-256 of a text
abbrev pub is_digest : List ℕ → List ℕ → Bool
is_digest word text = bytes_eq word (encoded text)

-- what may stand as a word: characters that are no space, one at least
pub record IsWord (word : List ℕ) : Type 0 where
  pub some : 0 < length word
  pub solid : AllByRecursion (λ c. (c == 32) ≡ false) word
