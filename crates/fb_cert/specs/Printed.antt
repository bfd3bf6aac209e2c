-- The text that is printed of a certificate: this project's profile.
use Rattle.std.specs.Prelude.{ℕ, List, [], ◌∷◌, ◌++◌, map, flat_map, codes, Option, Some, None}
use Rattle.std.specs.List.{join_with_byte}
use Rattle.std.specs.Fmt.{decimal, signed_decimal}
use Rattle.fb_model.specs.CertificateText.{TextRow, repeats, range, charge, weight, depth, far, far_state, channel}
use Rattle.fb_cert.specs.declared.kind.Kind.{Kind}
use Rattle.fb_cert.specs.declared.kind.Kind.TheVariants as kinds
use Rattle.fb_cert.specs.Rows.{Rows}

-- ---- lines

-- the words of a row
abbrev pub row_words : TextRow → List (List ℕ)
row_words (repeats n) = codes "REPEATS" ∷ decimal n ∷ []
row_words (range p low high) = codes "RANGE" ∷ p ∷ signed_decimal low ∷ signed_decimal high ∷ []
row_words (charge p steps places) = codes "CHARGE" ∷ p ∷ decimal steps ∷ decimal places ∷ []
row_words (weight p steps places) = codes "WEIGHT" ∷ p ∷ decimal steps ∷ decimal places ∷ []
row_words (depth p n) = codes "DEPTH" ∷ p ∷ decimal n ∷ []
row_words (far p n) = codes "FAR" ∷ p ∷ decimal n ∷ []
row_words (far_state p n) = codes "FARSTATE" ∷ p ∷ decimal n ∷ []
row_words (channel number n) = codes "CHANNEL" ∷ decimal number ∷ decimal n ∷ []

-- words with a space between them
abbrev pub row_text : TextRow → List ℕ
row_text e = join_with_byte 32 (row_words e)

-- a row, and the end of its line
abbrev pub row_line : TextRow → List ℕ
row_line e = row_text e ++ 10 ∷ []

-- ---- texts

abbrev pub repeats_entries : Option ℕ → List TextRow
repeats_entries None = []
repeats_entries (Some n) = repeats n ∷ []

-- the rows of a kind
abbrev pub entries_of : Kind → Rows → List TextRow
entries_of kinds.Repeats rows = repeats_entries rows.repeats
entries_of kinds.Range rows = map (λ r. range r.0 r.1.low r.1.high) rows.ranges
entries_of kinds.Charge rows = map (λ r. charge r.0 r.1.steps r.1.places) rows.charges
entries_of kinds.Weight rows = map (λ r. weight r.0 r.1.steps r.1.places) rows.weights
entries_of kinds.Depth rows = map (λ r. depth r.0 r.1) rows.depths
entries_of kinds.Far rows = map (λ r. far r.0 r.1) rows.fars
entries_of kinds.FarState rows = map (λ r. far_state r.0 r.1) rows.far_states
entries_of kinds.Channel rows = map (λ r. channel r.0 r.1) rows.channels

-- the kinds in the order in which they are printed
abbrev pub all_kinds : List Kind
all_kinds = kinds.Repeats ∷ kinds.Range ∷ kinds.Charge ∷ kinds.Weight ∷ kinds.Depth ∷ kinds.Far ∷ kinds.FarState ∷ kinds.Channel ∷ []

abbrev pub entries : Rows → List TextRow
entries rows = flat_map (λ k. entries_of k rows) all_kinds

-- the first line, and a line for each row
unfoldable pub printed : Rows → List ℕ
printed rows = codes "CERT 1" ++ 10 ∷ flat_map row_line (entries rows)
