-- What is printed of rows that a text can say spells them.
use Rattle.std.proofs.Common.{◌≡◌, ℕ, ◌+◌, ◌^◌, ◌<◌, ◌≤◌, List, [], ◌∷◌, ◌++◌, codes, refl, sym, ap, subst, ◌∙◌, arith}
use Rattle.std.specs.Prelude.{flat_map}
use Rattle.std.specs.List.{AllByRecursion, join_with_byte}
use Rattle.std.specs.Str.Lines.{lines}
use Rattle.std.specs.Fmt.{decimal, signed_decimal}
use Rattle.fb_model.specs.Spelling.{upper}
use Rattle.fb_model.specs.CertificateText.{Written, written, rows_from, TextRow, repeats, range, charge, weight, depth, far, far_state, channel, head, IsNumberIn, IsDotted, IsTextRow, a_repeats, a_range, a_charge, a_weight, a_depth, a_far, a_far_state, a_channel, AreTextRows, no_text_row, text_row, Spells, IsTold, most_steps, most_places}
use Rattle.fb_cert.specs.declared.certificate.Amount.{Amount}
use Rattle.fb_cert.specs.Rows.{Rows, book_of}
use Rattle.fb_cert.specs.Sayable.{IsUpperPath, IsAmount, IsWithin, IsSayable, AreSayable}
use Rattle.fb_cert.specs.Printed.{row_words, row_line, entries, printed}
use Rattle.fb_cert.proofs.Decimals.{decimal_is, signed_is}
use Rattle.fb_cert.proofs.Splitting.{IsPrinted, words_joined, joined_plain, line_upper, first_line, first_row}
use Rattle.fb_cert.proofs.Inking.{decimal_printed, signed_printed, path_printed, word_printed}
use Rattle.fb_cert.proofs.ByKind.{book_in, none_twice}
use Rattle.fb_cert.proofs.Ordered.{entries_fill}

-- its words are printed words that say it
record IsGood (e : TextRow) : Type 0 where
  are : AllByRecursion IsPrinted (row_words e)
  says : IsTextRow (row_words e) e

-- ---- each kind of row

small : (n most : ℕ) → n ≤ most → most ≤ 1000000000000 → n < 2 ^ 64
small n most h k = omega arith

number_printed : {low high n : ℕ} → IsWithin low high n → high ≤ most_steps → IsPrinted (decimal n)
number_printed {low} {high} {n} h k = decimal_printed n (small n high h.fits k)

number_said : {low high n : ℕ} → IsWithin low high n → high ≤ most_steps → IsNumberIn low high (decimal n) n
number_said {low} {high} {n} h k = decimal_is low high n h.some h.fits (small n high h.fits k)

-- a word, a path and one number
path_good : (e : TextRow) (word path : List ℕ) (low high n : ℕ) → row_words e ≡ word ∷ path ∷ decimal n ∷ [] → (IsDotted path → IsNumberIn low high (decimal n) n → IsTextRow (word ∷ path ∷ decimal n ∷ []) e)
    → IsPrinted word → IsUpperPath path → IsWithin low high n → high ≤ most_steps → IsGood e
path_good e word path low high n is says w p h k =
    record {
      are = subst (AllByRecursion IsPrinted) (sym is) (w, (path_printed path p, (number_printed h k, tt)));
      says = subst (λ ws. IsTextRow ws e) (sym is) (says p.0 (number_said h k));
    }

steps_within : {a : Amount} → IsAmount a → IsWithin 0 most_steps a.steps
steps_within h = record { some = omega arith; fits = h.steps_fit }

places_within : {a : Amount} → IsAmount a → IsWithin 0 most_places a.places
places_within h = record { some = omega arith; fits = h.places_fit }

amount_printed : {a : Amount} (word path : List ℕ) → IsPrinted word → IsUpperPath path → IsAmount a → AllByRecursion IsPrinted (word ∷ path ∷ decimal a.steps ∷ decimal a.places ∷ [])
amount_printed word path w p h = (w, (path_printed path p, (number_printed (steps_within h) (omega arith), (number_printed (places_within h) (omega arith), tt))))

entry_good : (e : TextRow) → IsSayable e → IsGood e
entry_good (repeats n) h = record { are = (word_printed (codes "REPEATS") refl refl, (number_printed h (omega arith), tt)); says = a_repeats (number_said h (omega arith)) }
entry_good (range p low high) h =
    let s = h.1 in
    record {
      are = (word_printed (codes "RANGE") refl refl, (path_printed p h.0, (signed_printed low s.low_fits, (signed_printed high s.high_fits, tt))));
      says = a_range h.0.0 (signed_is low s.low_fits) (signed_is high s.high_fits) s.ordered;
    }
entry_good (charge p steps places) h =
    record { are = amount_printed (codes "CHARGE") p (word_printed (codes "CHARGE") refl refl) h.0 h.1; says = a_charge h.0.0 (number_said (steps_within h.1) (omega arith)) (number_said (places_within h.1) (omega arith)) }
entry_good (weight p steps places) h =
    record { are = amount_printed (codes "WEIGHT") p (word_printed (codes "WEIGHT") refl refl) h.0 h.1; says = a_weight h.0.0 (number_said (steps_within h.1) (omega arith)) (number_said (places_within h.1) (omega arith)) }
entry_good (depth p n) h = path_good (depth p n) (codes "DEPTH") p 1 most_places n refl (λ d k. a_depth d k) (word_printed (codes "DEPTH") refl refl) h.0 h.1 (omega arith)
entry_good (far p n) h = path_good (far p n) (codes "FAR") p 0 most_steps n refl (λ d k. a_far d k) (word_printed (codes "FAR") refl refl) h.0 h.1 (omega arith)
entry_good (far_state p n) h = path_good (far_state p n) (codes "FARSTATE") p 0 most_steps n refl (λ d k. a_far_state d k) (word_printed (codes "FARSTATE") refl refl) h.0 h.1 (omega arith)
entry_good (channel c n) h =
    record {
      are = (word_printed (codes "CHANNEL") refl refl, (number_printed h.0 (omega arith), (number_printed h.1 (omega arith), tt)));
      says = a_channel (number_said h.0 (omega arith)) (number_said h.1 (omega arith));
    }

all_good : (es : List TextRow) → AllByRecursion IsSayable es → AllByRecursion IsGood es
all_good [] h = tt
all_good (e ∷ es) h = (entry_good e h.0, all_good es h.1)

-- ---- the rows of the text

-- the rows at these numbers of lines
rows_at : ℕ → List TextRow → List Written
rows_at n [] = []
rows_at n (e ∷ es) = written n (row_words e) ∷ rows_at (n + 1) es

one_row : (n : ℕ) (w : List ℕ) (ws : List (List ℕ)) (rest : List ℕ) → AllByRecursion IsPrinted (w ∷ ws)
    → rows_from n (lines (upper ((join_with_byte 32 (w ∷ ws) ++ 10 ∷ []) ++ rest))) ≡ written n (w ∷ ws) ∷ rows_from (n + 1) (lines (upper rest))
one_row n w ws rest h =
    let l : List ℕ = join_with_byte 32 (w ∷ ws) in
    let p = joined_plain w ws h in
    ap (λ t. rows_from n (lines t)) (line_upper l rest p) ∙ ap (rows_from n) (first_line l (upper rest) p) ∙ first_row n l (lines (upper rest)) w ws (words_joined w ws h)

entry_row : (n : ℕ) (e : TextRow) (rest : List ℕ) → AllByRecursion IsPrinted (row_words e) → rows_from n (lines (upper (row_line e ++ rest))) ≡ written n (row_words e) ∷ rows_from (n + 1) (lines (upper rest))
entry_row n (repeats m) rest k = one_row n (codes "REPEATS") (decimal m ∷ []) rest k
entry_row n (range p l h) rest k = one_row n (codes "RANGE") (p ∷ signed_decimal l ∷ signed_decimal h ∷ []) rest k
entry_row n (charge p s q) rest k = one_row n (codes "CHARGE") (p ∷ decimal s ∷ decimal q ∷ []) rest k
entry_row n (weight p s q) rest k = one_row n (codes "WEIGHT") (p ∷ decimal s ∷ decimal q ∷ []) rest k
entry_row n (depth p m) rest k = one_row n (codes "DEPTH") (p ∷ decimal m ∷ []) rest k
entry_row n (far p m) rest k = one_row n (codes "FAR") (p ∷ decimal m ∷ []) rest k
entry_row n (far_state p m) rest k = one_row n (codes "FARSTATE") (p ∷ decimal m ∷ []) rest k
entry_row n (channel c m) rest k = one_row n (codes "CHANNEL") (decimal c ∷ decimal m ∷ []) rest k

all_rows : (n : ℕ) (es : List TextRow) → AllByRecursion IsGood es → rows_from n (lines (upper (flat_map row_line es))) ≡ rows_at n es
unfolding rows_at
all_rows n [] h = refl
all_rows n (e ∷ es) h = let g = h.0 in entry_row n e (flat_map row_line es) g.are ∙ ap (λ r. written n (row_words e) ∷ r) (all_rows (n + 1) es h.1)

all_say : (n : ℕ) (es : List TextRow) → AllByRecursion IsGood es → AreTextRows (rows_at n es) es
unfolding rows_at
all_say n [] h = no_text_row
all_say n (e ∷ es) h = let g = h.0 in text_row {w = written n (row_words e)} g.says (all_say (n + 1) es h.1)

first_words : (rest : List ℕ) → rows_from 1 (lines (upper (codes "CERT 1" ++ 10 ∷ rest))) ≡ written 1 (codes "CERT" ∷ codes "1" ∷ []) ∷ rows_from 2 (lines (upper rest))
first_words rest = one_row 1 (codes "CERT") (codes "1" ∷ []) rest (word_printed (codes "CERT") refl refl, (word_printed (codes "1") refl refl, tt))

one_is : IsNumberIn 1 1 (codes "1") 1
one_is = record { some = omega arith; digits = (refl, tt); value = refl; at_least = omega arith; at_most = omega arith }

-- ---- the whole text

pub printed_spells : (rs : Rows) → AreSayable rs → Spells (printed rs) (book_of rs)
unfolding printed
printed_spells rs h =
    let es = entries rs in
    let fill = entries_fill rs h in
    let good = all_good es fill.said in
    record {
      first = written 1 (codes "CERT" ∷ codes "1" ∷ []);
      others = rows_at 2 es;
      entries = es;
      rows_are = first_words (flat_map row_line es) ∙ ap (λ r. written 1 (codes "CERT" ∷ codes "1" ∷ []) ∷ r) (all_rows 2 es good);
      first_is = head one_is;
      others_are = all_say 2 es good;
      none_twice = none_twice es fill.new;
      certificate_is = ap book_of (sym fill.are) ∙ book_in es;
    }

-- so they stand in a text
pub sayable_told : (rs : Rows) → AreSayable rs → IsTold (book_of rs)
sayable_told rs h = (printed rs, printed_spells rs h)
