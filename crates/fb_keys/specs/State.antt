-- The state in which counters survive a restart, and its text: this project's profile.
use Rattle.std.specs.Prelude.{◌≡◌, ℕ, zero, suc, ◌<◌, ◌≤◌, ◌==◌, max, Bool, ◌&&◌, List, [], ◌∷◌, ◌++◌, codes, Option, None, Some, replicate, bytes_eq, flat_map, if◌then◌else◌}
use Rattle.std.specs.Fmt.{decimal}
use Rattle.std.specs.List.{AllByRecursion, position_from}
use Rattle.hex.specs.Hex.{encode_lower}
use Rattle.fb_seal.specs.Seal.{tag}
use Rattle.fb_keys.specs.declared.state.Entry.{Entry}

-- the first own counter that may be used in the next life, and the peers
pub record State : Type 0 where
  pub own : ℕ
  pub entries : List Entry

-- the mark of a key, which tells it from others and does not give it away
abbrev pub mark_of : List ℕ → List ℕ
mark_of key = tag key (codes "fbr-state")

-- ---- the text

abbrev pub tail_of : ℕ → List ℕ
tail_of upto = codes " " ++ decimal upto ++ 10 ∷ []

abbrev pub line_with : ℕ → List ℕ → ℕ → List ℕ
line_with number mark upto = ((codes "peer " ++ decimal number ++ codes " ") ++ mark) ++ tail_of upto

-- `peer 2 93b1c8.. 320`
abbrev pub entry_line : Entry → List ℕ
entry_line e = line_with e.number (encode_lower e.mark) e.upto

abbrev pub body_text : State → List ℕ
body_text s = (codes "fbr-state 1\nown " ++ decimal s.own ++ 10 ∷ []) ++ flat_map entry_line s.entries

abbrev pub end_with : List ℕ → List ℕ
end_with digits = codes "end " ++ digits ++ 10 ∷ []

-- the last line has the tag of all before it under the key of zeros, so that a text that was cut or damaged is none
abbrev pub end_line : List ℕ → List ℕ
end_line body = end_with (encode_lower (tag (replicate 32 0) body))

abbrev pub state_text : State → List ℕ
state_text s = body_text s ++ end_line (body_text s)

-- ---- what is written down

abbrev pub is_of : ℕ → List ℕ → Entry → Bool
is_of number mark e = e.number == number && bytes_eq e.mark mark

-- the first counter that was not allowed to a peer under a key: 0 where nothing is written of it
abbrev pub upto_in : ℕ → List ℕ → List Entry → ℕ
upto_in number mark [] = 0
upto_in number mark (e ∷ es) = if is_of number mark e then e.upto else upto_in number mark es

-- the entry at a place, with more counters allowed
abbrev pub raise_at : List Entry → ℕ → ℕ → List Entry
raise_at [] place upto = []
raise_at (e ∷ es) zero upto = record e { upto = max e.upto upto } ∷ es
raise_at (e ∷ es) (suc place) upto = e ∷ raise_at es place upto

-- the entries, where the first one that is of a peer under a key is there or not
abbrev pub raised_by : Option ℕ → ℕ → List ℕ → ℕ → List Entry → List Entry
raised_by (Some place) number mark upto entries = raise_at entries place upto
raised_by None number mark upto entries = entries ++ record { number = number; mark = mark; upto = upto } ∷ []

-- a peer under a key is allowed more counters
abbrev pub raised : ℕ → List ℕ → ℕ → List Entry → List Entry
raised number mark upto entries = raised_by (position_from (is_of number mark) 0 entries) number mark upto entries

-- ---- lives

-- a life with a file that held a number: these own counters were used, and this the file holds in the end. Before one is used, the file holds a larger number.
pub record IsLife (held : ℕ) (used : List ℕ) (after : ℕ) : Type 0 where
  pub from : AllByRecursion (λ counter. held ≤ counter) used
  pub below : AllByRecursion (λ counter. counter < after) used
  pub grows : held ≤ after

-- one life after another, and all counters that were used
abbrev pub Lives : ℕ → List (List ℕ) → ℕ → Type 0
Lives held [] after = after ≡ held
Lives held (used ∷ more) after = (between : ℕ) × IsLife held used between × Lives between more after
