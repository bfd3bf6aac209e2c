-- What is read of a text, a text can say.
use Rattle.std.proofs.Common.{◌≡◌, ℕ, ℤ, pos, zero, suc, neg_ℤ, ◌+◌, ◌-◌, ◌≤◌, ◌==◌, Bool, true, false, cond, not, List, [], ◌∷◌, length, filter, take, Option, Some, None, Ok, Err, refl, sym, ap, subst, ◌∙◌, arith, inl, inr}
use Rattle.std.specs.Prelude.{nat_lt}
use Rattle.std.specs.List.{AllByRecursion, slice_split, onto_first}
use Rattle.std.specs.Char.{to_ascii_uppercase}
use Rattle.std.specs.Int.RustNames.{FitsSigned}
use mir.Syntax.{w64}
use Rattle.std.specs.Str.Lines.{lines, lines_of_parts, strip_carriage_return}
use Rattle.std.proofs.lemmas.Str.Ascii.{uppercase-uppercase}
use Rattle.fb_model.specs.Spelling.{upper}
use Rattle.fb_model.specs.CertificateText.{words, Written, written, rows_from, TextRow, IsWhole, plain, negative, IsNumberIn, IsTextRow, a_repeats, a_range, a_charge, a_weight, a_depth, a_far, a_far_state, a_channel, begins_cert, most_lint, most_characters}
use Rattle.fb_faults.specs.declared.certificate.CertFault.TheVariants.{TooLong, Row, DuplicateRow}
use Rattle.fb_cert.specs.Views.{Rows, no_rows, has_row, with_row}
use Rattle.fb_cert.specs.Sayable.{IsWithin, IsSayable, AreSayable}
use Rattle.fb_cert.specs.Reading.{read, text_row_at, is_head, entered, row_at, lines_at, whole, text_at}
use Rattle.fb_cert.proofs.Deciding.{chosen}
use Rattle.fb_cert.proofs.Entries.{entry_found}
use Rattle.fb_cert.proofs.Texts.{rest_at, all_at, next_ok, all_lines}
use Rattle.fb_cert.proofs.Sayables.{sayable_with, sayable_none}

-- ---- words in upper case

abbrev IsCapital : ℕ → Type 0
IsCapital c = to_ascii_uppercase c ≡ c

abbrev AreCapital : List ℕ → Type 0
AreCapital cs = AllByRecursion IsCapital cs

upper_capital : (cs : List ℕ) → AreCapital (upper cs)
upper_capital [] = tt
upper_capital (c ∷ cs) = (uppercase-uppercase c, upper_capital cs)

capital_upper : (cs : List ℕ) → AreCapital cs → upper cs ≡ cs
capital_upper [] h = refl
capital_upper (c ∷ cs) h = ap (λ d. d ∷ upper cs) h.0 ∙ ap (λ r. c ∷ r) (capital_upper cs h.1)

onto_capital : (c : ℕ) (parts : List (List ℕ)) → IsCapital c → AllByRecursion AreCapital parts → AllByRecursion AreCapital (onto_first c parts)
onto_capital c [] h k = ((h, tt), tt)
onto_capital c (x ∷ parts) h k = ((h, k.0), k.1)

split_capital : (p : ℕ → Bool) (cs : List ℕ) → AreCapital cs → AllByRecursion AreCapital (slice_split p cs)
split_capital p [] h = (tt, tt)
split_capital p (c ∷ cs) h = by (p c) (split_capital p cs h.1)
  where
    by : (b : Bool) → AllByRecursion AreCapital (slice_split p cs) → AllByRecursion AreCapital (cond b ([] ∷ slice_split p cs) (onto_first c (slice_split p cs)))
    by true k = (tt, k)
    by false k = onto_capital c (slice_split p cs) h.0 k

take_capital : (n : ℕ) (cs : List ℕ) → AreCapital cs → AreCapital (take n cs)
take_capital zero cs h = tt
take_capital (suc n) [] h = tt
take_capital (suc n) (c ∷ cs) h = (h.0, take_capital n cs h.1)

strip_capital : (l : List ℕ) → AreCapital l → AreCapital (strip_carriage_return l)
strip_capital l h = by (_ == 13)
  where
    by : (b : Bool) → AreCapital (cond b (take (length l - 1) l) l)
    by true = take_capital (length l - 1) l h
    by false = h

parts_capital : (parts : List (List ℕ)) → AllByRecursion AreCapital parts → AllByRecursion AreCapital (lines_of_parts parts)
parts_capital [] h = tt
parts_capital (x ∷ []) h = by (length x == 0)
  where
    by : (b : Bool) → AllByRecursion AreCapital (cond b [] (x ∷ []))
    by true = tt
    by false = h
parts_capital (x ∷ y ∷ more) h = (strip_capital x h.0, parts_capital (y ∷ more) h.1)

filter_capital : (p : List ℕ → Bool) (ws : List (List ℕ)) → AllByRecursion AreCapital ws → AllByRecursion AreCapital (filter p ws)
filter_capital p [] h = tt
filter_capital p (w ∷ ws) h = by (p w) (filter_capital p ws h.1)
  where
    by : (b : Bool) → AllByRecursion AreCapital (filter p ws) → AllByRecursion AreCapital (cond b (w ∷ filter p ws) (filter p ws))
    by true k = (h.0, k)
    by false k = k

words_capital : (line : List ℕ) → AreCapital line → AllByRecursion AreCapital (words line)
words_capital line h = filter_capital (λ w. not (length w == 0)) (slice_split (λ c. c == 32) line) (split_capital (λ c. c == 32) line h)

abbrev HasCapitals : Written → Type 0
HasCapitals w = AllByRecursion AreCapital w.words

rows_capital : (n : ℕ) (ls : List (List ℕ)) → AllByRecursion AreCapital ls → AllByRecursion HasCapitals (rows_from n ls)
rows_capital n [] h = tt
rows_capital n (l ∷ ls) h = by (length (words l) == 0) (rows_capital (n + 1) ls h.1)
  where
    by : (b : Bool) → AllByRecursion HasCapitals (rows_from (n + 1) ls) → AllByRecursion HasCapitals (cond b (rows_from (n + 1) ls) (written n (words l) ∷ rows_from (n + 1) ls))
    by true k = k
    by false k = (words_capital l h.0, k)

lines_capital : (text : List ℕ) → AllByRecursion AreCapital (lines (upper text))
lines_capital text = parts_capital (slice_split (λ b. b == 10) (upper text)) (split_capital (λ b. b == 10) (upper text) (upper_capital text))

-- ---- rows

neg_fits : (n : ℕ) → n ≤ most_lint + 1 → FitsSigned w64 (neg_ℤ (pos n))
neg_fits zero h = record { sfits = omega arith }
neg_fits (suc n) h = record { sfits = omega arith }

whole_fits : (cs : List ℕ) (z : ℤ) → IsWhole cs z → FitsSigned w64 z
whole_fits cs z (plain {n} h) = let m = h.at_most in record { sfits = omega arith }
whole_fits cs z (negative {n} h) = neg_fits n h.at_most

number_within : {low high n : ℕ} {cs : List ℕ} → IsNumberIn low high cs n → IsWithin low high n
number_within h = record { some = h.at_least; fits = h.at_most }

entry_sayable : (ws : List (List ℕ)) (e : TextRow) → AllByRecursion AreCapital ws → IsTextRow ws e → IsSayable e
entry_sayable ws e u (a_repeats h) = number_within h
entry_sayable ws e u (a_range {p} {l} {h} {low} {high} d a b k) = ((d, capital_upper p u.1.0), record { low_fits = whole_fits l low a; high_fits = whole_fits h high b; ordered = k })
entry_sayable ws e u (a_charge {p} d h g) = ((d, capital_upper p u.1.0), record { steps_fit = h.at_most; places_fit = g.at_most })
entry_sayable ws e u (a_weight {p} d h g) = ((d, capital_upper p u.1.0), record { steps_fit = h.at_most; places_fit = g.at_most })
entry_sayable ws e u (a_depth {p} d h) = ((d, capital_upper p u.1.0), number_within h)
entry_sayable ws e u (a_far {p} d h) = ((d, capital_upper p u.1.0), number_within h)
entry_sayable ws e u (a_far_state {p} d h) = ((d, capital_upper p u.1.0), number_within h)
entry_sayable ws e u (a_channel h g) = (number_within h, number_within g)

entered_with : (n : ℕ) (o : Option TextRow) (rs out : Rows) → entered n o rs ≡ Ok out → (e : TextRow) × (o ≡ Some e) × (has_row e rs ≡ false) × (with_row e rs ≡ out)
entered_with n None rs out h = absurd (cc)
entered_with n (Some e) rs out h =
    elim (chosen (has_row e rs) (Err (DuplicateRow n)) (Ok (with_row e rs)) (Ok out) h) [
      | inl p ↦ absurd (cc)
      | inr p ↦ (let same : with_row e rs ≡ out = cc in (e, refl, p.0, same))
    ]

row_sayable : (n : ℕ) (ws : List (List ℕ)) (rs out : Rows) → row_at n ws rs ≡ Ok out → AllByRecursion AreCapital ws → AreSayable rs → AreSayable out
row_sayable n ws rs out h u a =
    elim (chosen (begins_cert ws) (Err (DuplicateRow n)) (entered n (text_row_at ws) rs) (Ok out) h) [
      | inl p ↦ absurd (cc)
      | inr p ↦ (let o = entered_with n (text_row_at ws) rs out p.1 in subst AreSayable o.3 (sayable_with o.0 rs a (entry_sayable ws o.0 u (entry_found ws o.0 o.1)) o.2))
    ]

rest_sayable : (ws : List Written) (rs out : Rows) → rest_at ws rs ≡ Ok out → AllByRecursion HasCapitals ws → AreSayable rs → AreSayable out
unfolding rest_at
rest_sayable [] rs out h u a = let same : rs ≡ out = cc in subst AreSayable same a
rest_sayable (w ∷ ws) rs out h u a =
    let n = next_ok (row_at w.line w.words rs) (λ k. rest_at ws k) out h in
    rest_sayable ws n.0 out n.2 u.1 (row_sayable w.line w.words rs n.0 n.1 u.0 a)

all_sayable : (ws : List Written) (out : Rows) → all_at ws ≡ Ok out → AllByRecursion HasCapitals ws → AreSayable out
unfolding all_at
all_sayable [] out h u = absurd (cc)
all_sayable (w ∷ ws) out h u =
    elim (chosen (is_head w.words) (rest_at ws no_rows) (Err (Row w.line)) (Ok out) h) [
      | inl p ↦ rest_sayable ws no_rows out p.1 u.1 sayable_none
      | inr p ↦ absurd (cc)
    ]

-- the rows that are read of a text
pub text_sayable : (text : List ℕ) (rs : Rows) → text_at text ≡ Ok rs → AreSayable rs
text_sayable text rs h =
    elim (chosen (nat_lt most_characters (length text)) (Err TooLong) (whole (lines_at 1 (lines (upper text)) (read false no_rows))) (Ok rs) h) [
      | inl p ↦ absurd (cc)
      | inr p ↦ all_sayable (rows_from 1 (lines (upper text))) rs (sym (all_lines 1 (lines (upper text))) ∙ p.1) (rows_capital 1 (lines (upper text)) (lines_capital text))
    ]
