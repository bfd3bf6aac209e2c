-- The characters of a text, of its lines and of their words.
use Rattle.std.proofs.Common.{◌≡◌, ℕ, ℤ, zero, suc, ◌+◌, ◌-◌, ◌<◌, ◌≤◌, ◌==◌, Bool, true, false, cond, not, List, [], ◌∷◌, length, filter, take, sym, subst, arith}
use Rattle.std.specs.List.{slice_split, onto_first}
use Rattle.std.specs.Char.{to_ascii_uppercase}
use Rattle.std.specs.Str.Lines.{lines, lines_of_parts, strip_carriage_return}
use Rattle.std.proofs.lemmas.List.{length-map}
use Rattle.fb_model.specs.Names.{Name, Path}
use Rattle.fb_model.specs.Spelling.{upper}
use Rattle.fb_model.specs.Certificates.{Certificate, PlaceRows, Range_rows, Charge_rows, Weight_rows, Far_rows, Far_state_rows, all_leaves, required, given, AllRows}
use Rattle.fb_model.specs.Declarations.{BlockTree, SourceTree}
use Rattle.fb_model.specs.NetworkTyping.{ElaboratesWith}
use Rattle.fb_model.specs.System.{System}
use Rattle.fb_model.specs.CertificateText.{words, Written, written, rows_from, rows, IsWhole, plain, negative, names_in, all_but_last, last_name, TextRow, repeats, range, charge, weight, depth, far, far_state, channel, IsHead, head, IsTextRow, a_repeats, a_range, a_charge, a_weight, a_depth, a_far, a_far_state, a_channel, AreTextRows, no_text_row, text_row, certificate_in, Spells}
use Rattle.fb_model_lengths.specs.Lengths.{path_length, rows_length, all_length, least_length}
use Rattle.fb_model_lengths.proofs.Apart.{required_differ}
use Rattle.fb_model_lengths.proofs.Different.{no_longer}

-- ---- parts of a text, each with the character behind it

split_length : (p : ℕ → Bool) (cs : List ℕ) → path_length (slice_split p cs) ≡ suc (length cs)
split_length p [] = omega arith
split_length p (c ∷ cs) = by (p c) (slice_split p cs) (split_length p cs)
  where
    by : (b : Bool) (parts : List (List ℕ)) → path_length parts ≡ suc (length cs) → path_length (cond b ([] ∷ parts) (onto_first c parts)) ≡ suc (suc (length cs))
    by true parts h = omega (arith, h)
    by false [] h = omega (arith, h)
    by false (x ∷ parts) h = omega (arith, h)

take_short : (n : ℕ) (l : List ℕ) → length (take n l) ≤ length l
take_short zero l = omega arith
take_short (suc n) [] = omega arith
take_short (suc n) (c ∷ l) = omega (arith, take_short n l)

strip_short : (l : List ℕ) → length (strip_carriage_return l) ≤ length l
strip_short l = by (_ == 13)
  where
    by : (b : Bool) → length (cond b (take (length l - 1) l) l) ≤ length l
    by true = take_short (length l - 1) l
    by false = omega arith

parts_length : (parts : List (List ℕ)) → path_length (lines_of_parts parts) ≤ path_length parts
parts_length [] = omega arith
parts_length (x ∷ []) = by (length x == 0)
  where
    by : (b : Bool) → path_length (cond b [] (x ∷ [])) ≤ path_length (x ∷ [])
    by true = omega arith
    by false = omega arith
parts_length (x ∷ y ∷ more) = omega (arith, strip_short x, parts_length (y ∷ more))

lines_length : (text : List ℕ) → path_length (lines (upper text)) ≤ suc (length text)
lines_length text = omega (arith, parts_length (slice_split (λ b. b == 10) (upper text)), split_length (λ b. b == 10) (upper text), length-map text to_ascii_uppercase)

filter_length : (p : List ℕ → Bool) (ws : List (List ℕ)) → path_length (filter p ws) ≤ path_length ws
filter_length p [] = omega arith
filter_length p (w ∷ ws) = by (p w) (filter_length p ws)
  where
    by : (b : Bool) → path_length (filter p ws) ≤ path_length ws → path_length (cond b (w ∷ filter p ws) (filter p ws)) ≤ path_length (w ∷ ws)
    by true h = omega (arith, h)
    by false h = omega (arith, h)

line_length : (line : List ℕ) → path_length (words line) ≤ suc (length line)
line_length line = omega (arith, filter_length (λ w. not (length w == 0)) (slice_split (λ c. c == 32) line), split_length (λ c. c == 32) line)

-- ---- rows

-- the words of rows
abbrev words_length : List Written → ℕ
words_length [] = 0
words_length (w ∷ ws) = path_length w.words + words_length ws

rows_words : (n : ℕ) (ls : List (List ℕ)) → words_length (rows_from n ls) ≤ path_length ls
rows_words n [] = omega arith
rows_words n (l ∷ ls) = by (length (words l) == 0) (rows_words (n + 1) ls)
  where
    by : (b : Bool) → words_length (rows_from (n + 1) ls) ≤ path_length ls → words_length (cond b (rows_from (n + 1) ls) (written n (words l) ∷ rows_from (n + 1) ls)) ≤ path_length (l ∷ ls)
    by true h = omega (arith, h)
    by false h = omega (arith, h, line_length l)

text_words : (text : List ℕ) → words_length (rows text) ≤ suc (length text)
text_words text = omega (arith, rows_words 1 (lines (upper text)), lines_length text)

-- the least that a row has
abbrev entry_length : TextRow → ℕ
entry_length (repeats n) = 0
entry_length (range p low high) = 11 + length p
entry_length (charge p s k) = 12 + length p
entry_length (weight p s k) = 12 + length p
entry_length (depth p n) = 0
entry_length (far p n) = 7 + length p
entry_length (far_state p n) = 12 + length p
entry_length (channel c n) = 0

abbrev entries_length : List TextRow → ℕ
entries_length [] = 0
entries_length (e ∷ es) = entry_length e + entries_length es

whole_some : {cs : List ℕ} {n : ℤ} → IsWhole cs n → 0 < length cs
whole_some (plain h) = h.some
whole_some (negative h) = omega arith

row_length : (ws : List (List ℕ)) (e : TextRow) → IsTextRow ws e → entry_length e ≤ path_length ws
row_length ws e (a_repeats h) = omega arith
row_length ws e (a_range d l h o) = omega (arith, whole_some l, whole_some h)
row_length ws e (a_charge d s k) = omega (arith, s.some, k.some)
row_length ws e (a_weight d s k) = omega (arith, s.some, k.some)
row_length ws e (a_depth d h) = omega arith
row_length ws e (a_far d s) = omega (arith, s.some)
row_length ws e (a_far_state d s) = omega (arith, s.some)
row_length ws e (a_channel c s) = omega arith

rows_of_length : (ws : List Written) (es : List TextRow) → AreTextRows ws es → entries_length es ≤ words_length ws
rows_of_length ws es no_text_row = omega arith
rows_of_length ws es (text_row {w = w} {e = e} {ws = us} {es = fs} h more) = omega (arith, row_length w.words e h, rows_of_length us fs more)

-- ---- places

last_length : (n : Name) (ns : Path) → path_length (all_but_last (n ∷ ns)) + suc (length (last_name (n ∷ ns))) ≡ path_length (n ∷ ns)
last_length n [] = omega arith
last_length n (m ∷ ns) = omega (arith, last_length m ns)

-- a place is as long as its text
place_is : (text : List ℕ) → path_length (all_but_last (names_in text)) + length (last_name (names_in text)) ≡ length text
place_is text = by (names_in text) (split_length (λ c. c == 46) text)
  where
    by : (ns : Path) → path_length ns ≡ suc (length text) → path_length (all_but_last ns) + length (last_name ns) ≡ length text
    by [] h = omega (arith, h)
    by (n ∷ ns) h = omega (arith, h, last_length n ns)

given_length : (es : List TextRow) → all_length (λ kind. given kind (certificate_in es)) ≤ entries_length es
given_length [] = omega arith
given_length (repeats n ∷ es) = omega (arith, given_length es)
given_length (range p low high ∷ es) = omega (arith, given_length es, place_is p)
given_length (charge p s k ∷ es) = omega (arith, given_length es, place_is p)
given_length (weight p s k ∷ es) = omega (arith, given_length es, place_is p)
given_length (depth p n ∷ es) = omega (arith, given_length es)
given_length (far p n ∷ es) = omega (arith, given_length es, place_is p)
given_length (far_state p n ∷ es) = omega (arith, given_length es, place_is p)
given_length (channel c n ∷ es) = omega (arith, given_length es)

-- ---- texts

head_some : (ws : List (List ℕ)) → IsHead ws → 1 ≤ path_length ws
head_some ws (head h) = omega arith

pub as_long : (text : List ℕ) (cert : Certificate) → Spells text cert → all_length (λ kind. given kind cert) ≤ length text
as_long text cert s =
    let whole : words_length (s.first ∷ s.others) ≤ suc (length text) = subst (λ ws. words_length ws ≤ suc (length text)) s.rows_are (text_words text) in
    let rest : entries_length s.entries ≤ words_length s.others = rows_of_length s.others s.entries s.others_are in
    let of_entries : all_length (λ kind. given kind (certificate_in s.entries)) ≤ length text = omega (arith, whole, rest, given_length s.entries, head_some s.first.words s.first_is) in
    subst (λ c. all_length (λ kind. given kind c) ≤ length text) (sym s.certificate_is) of_entries

pub fitting : (library : List BlockTree) (source : SourceTree) (system : System) (text : List ℕ) (cert : Certificate) → ElaboratesWith library source system → AllRows system cert → Spells text cert → least_length cert.repeats system ≤ length text
fitting library source system text cert typed same s =
    let all = all_leaves system.devices in
    let each : (kind : PlaceRows) → rows_length kind (required kind cert.repeats all) ≤ rows_length kind (given kind cert) =
    λ kind. no_longer kind (required kind cert.repeats all) (given kind cert) (required_differ library source system typed kind cert.repeats) (same.places kind).same in
    omega (arith, as_long text cert s, each Range_rows, each Charge_rows, each Weight_rows, each Far_rows, each Far_state_rows)
