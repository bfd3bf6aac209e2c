-- How a certificate is written: this project's profile.
use Rattle.std.specs.Prelude.{◌≡◌, ℕ, ◌+◌, ◌-◌, ◌*◌, ◌<◌, ◌≤◌, ◌==◌, ℤ, pos, neg_ℤ, int_le, Bool, true, false, not, List, [], ◌∷◌, ◌++◌, length, filter, codes, Some, None, if◌then◌else◌}
use Rattle.std.specs.List.{slice_split, list_any, AllByRecursion}
use Rattle.std.specs.Str.{bytes_eq}
use Rattle.std.specs.Str.Lines.{lines}
use Rattle.fb_model.specs.Names.{Name, Path, Place, at_place}
use Rattle.fb_model.specs.Spelling.{is_digit, upper, IsWord}
use Rattle.fb_model.specs.Ranges.{Range}
use Rattle.fb_model.specs.Certificates.{Certificate, Row, DepthRow, FarRow, ChannelRow}

-- ---- lines and words

-- the words of a line stand between spaces
abbrev pub words : List ℕ → List (List ℕ)
words line = filter (λ w. not (length w == 0)) (slice_split (λ c. c == 32) line)

-- a line that has words, and its number
pub record Written : Type 0 where
  pub line : ℕ
  pub words : List (List ℕ)

-- such a line
abbrev pub written : ℕ → List (List ℕ) → Written
written line ws = record { line = line; words = ws }

-- the rows in these lines, whose first has this number; a line without words is counted
abbrev pub rows_from : ℕ → List (List ℕ) → List Written
rows_from n [] = []
rows_from n (line ∷ rest) = if length (words line) == 0 then rows_from (n + 1) rest else written n (words line) ∷ rows_from (n + 1) rest

-- letter case has no meaning, and a carriage return before a line feed belongs to it
abbrev pub rows : List ℕ → List Written
rows text = rows_from 1 (lines (upper text))

-- ---- numbers and paths

-- what digits count behind those that count v
abbrev pub decimal_from : ℕ → List ℕ → ℕ
decimal_from v [] = v
decimal_from v (c ∷ cs) = decimal_from (v * 10 + (c - 48)) cs

-- one digit or more, the first ones perhaps zeros, whose number lies within bounds
pub record IsNumberIn (low high : ℕ) (cs : List ℕ) (n : ℕ) : Type 0 where
  pub some : 0 < length cs
  pub digits : AllByRecursion (λ c. is_digit c ≡ true) cs
  pub value : decimal_from 0 cs ≡ n
  pub at_least : low ≤ n
  pub at_most : n ≤ high

-- the most steps of a row
abbrev pub most_steps : ℕ
most_steps = 1000000000000

-- the most places of a row, and the most that a queue is deep
abbrev pub most_places : ℕ
most_places = 4096

-- the most REPEATS
abbrev pub most_repeats : ℕ
most_repeats = 255

-- the greatest number of a channel
abbrev pub most_channel : ℕ
most_channel = 65535

-- the greatest number of LINT
abbrev pub most_lint : ℕ
most_lint = 9223372036854775807

-- a number of LINT: digits, perhaps behind a minus
pub data IsWhole : List ℕ → ℤ → Type 0 where
  plain : {cs : List ℕ} {n : ℕ} → IsNumberIn 0 most_lint cs n → IsWhole cs (pos n)
  negative : {cs : List ℕ} {n : ℕ} → IsNumberIn 0 (most_lint + 1) cs n → IsWhole (45 ∷ cs) (neg_ℤ (pos n))

-- what stands between the dots
abbrev pub names_in : List ℕ → Path
names_in cs = slice_split (λ c. c == 46) cs

-- names joined by dots
abbrev pub IsDotted : List ℕ → Type 0
IsDotted cs = AllByRecursion IsWord (names_in cs)

-- the names before the last
abbrev pub all_but_last : Path → Path
all_but_last [] = []
all_but_last (n ∷ []) = []
all_but_last (n ∷ m ∷ ns) = n ∷ all_but_last (m ∷ ns)

-- the last name
abbrev pub last_name : Path → Name
last_name [] = []
last_name (n ∷ []) = n
last_name (n ∷ m ∷ ns) = last_name (m ∷ ns)

-- the last name is the event's, those before it the block's
abbrev pub place_of : List ℕ → Place
place_of cs = at_place (all_but_last (names_in cs)) (last_name (names_in cs))

-- ---- rows

-- a row after the first, with its path as it is written
pub data TextRow : Type 0 where
  repeats : ℕ → TextRow
  range : List ℕ → ℤ → ℤ → TextRow
  charge : List ℕ → ℕ → ℕ → TextRow
  weight : List ℕ → ℕ → ℕ → TextRow
  depth : List ℕ → ℕ → TextRow
  far : List ℕ → ℕ → TextRow
  far_state : List ℕ → ℕ → TextRow
  channel : ℕ → ℕ → TextRow

-- the first row
pub data IsHead : List (List ℕ) → Type 0 where
  head : {n : List ℕ} → IsNumberIn 1 1 n 1 → IsHead (codes "CERT" ∷ n ∷ [])

-- the words of a row after the first
pub data IsTextRow : List (List ℕ) → TextRow → Type 0 where
  a_repeats : {r : List ℕ} {n : ℕ} → IsNumberIn 1 most_repeats r n → IsTextRow (codes "REPEATS" ∷ r ∷ []) (repeats n)
  a_range : {p l h : List ℕ} {low high : ℤ} → IsDotted p → IsWhole l low → IsWhole h high → int_le low high ≡ true → IsTextRow (codes "RANGE" ∷ p ∷ l ∷ h ∷ []) (range p low high)
  a_charge : {p s k : List ℕ} {steps places : ℕ} → IsDotted p → IsNumberIn 0 most_steps s steps → IsNumberIn 0 most_places k places → IsTextRow (codes "CHARGE" ∷ p ∷ s ∷ k ∷ []) (charge p steps places)
  a_weight : {p s k : List ℕ} {steps places : ℕ} → IsDotted p → IsNumberIn 0 most_steps s steps → IsNumberIn 0 most_places k places → IsTextRow (codes "WEIGHT" ∷ p ∷ s ∷ k ∷ []) (weight p steps places)
  a_depth : {p d : List ℕ} {n : ℕ} → IsDotted p → IsNumberIn 1 most_places d n → IsTextRow (codes "DEPTH" ∷ p ∷ d ∷ []) (depth p n)
  a_far : {p s : List ℕ} {steps : ℕ} → IsDotted p → IsNumberIn 0 most_steps s steps → IsTextRow (codes "FAR" ∷ p ∷ s ∷ []) (far p steps)
  a_far_state : {p s : List ℕ} {steps : ℕ} → IsDotted p → IsNumberIn 0 most_steps s steps → IsTextRow (codes "FARSTATE" ∷ p ∷ s ∷ []) (far_state p steps)
  a_channel : {c s : List ℕ} {number steps : ℕ} → IsNumberIn 0 most_channel c number → IsNumberIn 0 most_steps s steps → IsTextRow (codes "CHANNEL" ∷ c ∷ s ∷ []) (channel number steps)

-- these rows, one after another
pub data AreTextRows : List Written → List TextRow → Type 0 where
  no_text_row : AreTextRows [] []
  text_row : {w : Written} {e : TextRow} {ws : List Written} {es : List TextRow} → IsTextRow w.words e → AreTextRows ws es → AreTextRows (w ∷ ws) (e ∷ es)

-- two rows of one kind have one path, or one channel, or are both REPEATS
abbrev pub is_same : TextRow → TextRow → Bool
is_same (repeats n) (repeats m) = true
is_same (range p a b) (range q c d) = bytes_eq p q
is_same (charge p s k) (charge q t l) = bytes_eq p q
is_same (weight p s k) (weight q t l) = bytes_eq p q
is_same (depth p n) (depth q m) = bytes_eq p q
is_same (far p n) (far q m) = bytes_eq p q
is_same (far_state p n) (far_state q m) = bytes_eq p q
is_same (channel c n) (channel d m) = c == d
is_same e d = false

-- no row repeats one before it
abbrev pub NoneTwice : List TextRow → Type 0
NoneTwice es = (before after : List TextRow) (e : TextRow) → es ≡ before ++ e ∷ after → list_any (is_same e) before ≡ false

-- a row of a range in the certificate: the last name is the variable's, those before it the block's
abbrev pub range_row : List ℕ → ℤ → ℤ → Range
range_row path low high = record { path = all_but_last (names_in path); variable = last_name (names_in path); low = low; high = high }

-- a row in the certificate, by its place
abbrev pub row_of : List ℕ → ℕ → ℕ → Row
row_of path steps places = record { place = place_of path; steps = steps; places = places }

-- a row of a depth in the certificate, by its path
abbrev pub depth_row : List ℕ → ℕ → DepthRow
depth_row path n = record { path = names_in path; depth = n }

-- a row of the steps on all devices, by its place
abbrev pub far_row : List ℕ → ℕ → FarRow
far_row path steps = record { place = place_of path; steps = steps }

abbrev pub channel_row : ℕ → ℕ → ChannelRow
channel_row number steps = record { channel = number; steps = steps }

abbrev pub no_certificate : Certificate
no_certificate = record { ranges = []; charges = []; weights = []; depths = []; repeats = None; fars = []; far_states = []; channels = [] }

-- a row before the rows of its kind
abbrev pub with_text_row : TextRow → Certificate → Certificate
with_text_row (repeats n) c = record c { repeats = Some n }
with_text_row (range p low high) c = record c { ranges = range_row p low high ∷ c.ranges }
with_text_row (charge p s k) c = record c { charges = row_of p s k ∷ c.charges }
with_text_row (weight p s k) c = record c { weights = row_of p s k ∷ c.weights }
with_text_row (depth p n) c = record c { depths = depth_row p n ∷ c.depths }
with_text_row (far p n) c = record c { fars = far_row p n ∷ c.fars }
with_text_row (far_state p n) c = record c { far_states = far_row p n ∷ c.far_states }
with_text_row (channel number n) c = record c { channels = channel_row number n ∷ c.channels }

-- rows of the same kind in text order
abbrev pub certificate_in : List TextRow → Certificate
certificate_in [] = no_certificate
certificate_in (e ∷ es) = with_text_row e (certificate_in es)

-- ---- whole texts

-- The text says `CERT 1` and then the rows of the certificate, in their order.
pub record Spells (text : List ℕ) (certificate : Certificate) : Type 0 where
  pub first : Written
  pub others : List Written
  pub entries : List TextRow
  pub rows_are : rows text ≡ first ∷ others
  pub first_is : IsHead first.words
  pub others_are : AreTextRows others entries
  pub none_twice : NoneTwice entries
  pub certificate_is : certificate ≡ certificate_in entries

-- The certificate stands in a text.
abbrev pub IsTold : Certificate → Type 0
IsTold certificate = (text : List ℕ) × Spells text certificate

-- Up to this row the text is right, and the rows after the first have said these.
pub record Reaches (text : List ℕ) (entries : List TextRow) (here : Written) : Type 0 where
  pub first : Written
  pub others : List Written
  pub after : List Written
  pub rows_are : rows text ≡ (first ∷ others) ++ here ∷ after
  pub first_is : IsHead first.words
  pub others_are : AreTextRows others entries
  pub none_twice : NoneTwice entries

-- the first word is CERT
abbrev pub begins_cert : List (List ℕ) → Bool
begins_cert [] = false
begins_cert (w ∷ ws) = bytes_eq w (codes "CERT")

-- What comes first is a row that cannot stand at this line.
pub data IsWrong (text : List ℕ) : ℕ → Type 0 where
  no_row : rows text ≡ [] → IsWrong text 1
  no_head : {w : Written} {others : List Written} → rows text ≡ w ∷ others → (IsHead w.words → ⊥) → IsWrong text w.line
  no_row_word : {w : Written} {entries : List TextRow} → Reaches text entries w → begins_cert w.words ≡ false → ((e : TextRow) → IsTextRow w.words e → ⊥) → IsWrong text w.line

-- What comes first is a row that stands a second time at this line.
pub data IsRepeated (text : List ℕ) : ℕ → Type 0 where
  head_again : {w : Written} {entries : List TextRow} → Reaches text entries w → begins_cert w.words ≡ true → IsRepeated text w.line
  path_again : {w : Written} {entries : List TextRow} {e : TextRow} → Reaches text entries w → IsTextRow w.words e → list_any (is_same e) entries ≡ true → IsRepeated text w.line

-- a text has at most so many characters
abbrev pub most_characters : ℕ
most_characters = 16777216
