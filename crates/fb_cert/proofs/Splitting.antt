-- Lines that are printed are the lines of the text, and their words are the words of the lines.
use Rattle.std.proofs.Common.{◌≡◌, ℕ, zero, suc, ◌+◌, ◌-◌, ◌<◌, ◌==◌, false, cond, not, List, [], ◌∷◌, ◌++◌, length, filter, take, get_or, refl, ap, ◌∙◌, arith}
use Rattle.std.specs.List.{AllByRecursion, slice_split, onto_first, join_with_byte}
use Rattle.std.specs.Char.{to_ascii_uppercase}
use Rattle.std.specs.Str.Lines.{lines, lines_of_parts, strip_carriage_return}
use Rattle.std.proofs.lemmas.List.Splits.{slice_split-cons_yes, slice_split-cons_no, length-slice_split}
use Rattle.fb_model.specs.Spelling.{upper}
use Rattle.fb_model.specs.CertificateText.{words, rows_from, written}
use Rattle.fb_cert.proofs.Deciding.{some_length}
use borrow.Author.Tests.{ne_eqb}

-- a character of a printed word
pub record IsInk (c : ℕ) : Type 0 where
  pub above : 32 < c
  pub same : to_ascii_uppercase c ≡ c

-- a printed word
pub record IsPrinted (w : List ℕ) : Type 0 where
  pub some : 0 < length w
  pub ink : AllByRecursion IsInk w

-- a character of a printed line
pub record IsPlain (c : ℕ) : Type 0 where
  pub above : 31 < c
  pub same : to_ascii_uppercase c ≡ c

-- ---- words

not_space : (c : ℕ) → IsInk c → (c == 32) ≡ false
not_space c h = let l = h.above in ne_eqb c 32 (λ e. omega arith)

split_word : (w : List ℕ) → AllByRecursion IsInk w → slice_split (λ c. c == 32) w ≡ w ∷ []
split_word [] h = refl
split_word (c ∷ w) h = slice_split-cons_no (λ b. b == 32) c w (not_space c h.0) ∙ ap (onto_first c) (split_word w h.1)

split_more : (w rest : List ℕ) → AllByRecursion IsInk w → slice_split (λ c. c == 32) (w ++ 32 ∷ rest) ≡ w ∷ slice_split (λ c. c == 32) rest
split_more [] rest h = slice_split-cons_yes (λ b. b == 32) 32 rest refl
split_more (c ∷ w) rest h = slice_split-cons_no (λ b. b == 32) c (w ++ 32 ∷ rest) (not_space c h.0) ∙ ap (onto_first c) (split_more w rest h.1)

split_joined : (w : List ℕ) (ws : List (List ℕ)) → AllByRecursion IsPrinted (w ∷ ws) → slice_split (λ c. c == 32) (join_with_byte 32 (w ∷ ws)) ≡ w ∷ ws
split_joined w [] h = let p = h.0 in split_word w p.ink
split_joined w (v ∷ vs) h = let p = h.0 in split_more w (join_with_byte 32 (v ∷ vs)) p.ink ∙ ap (λ r. w ∷ r) (split_joined v vs h.1)

filter_printed : (ws : List (List ℕ)) → AllByRecursion IsPrinted ws → filter (λ w. not (length w == 0)) ws ≡ ws
filter_printed [] h = refl
filter_printed (w ∷ ws) h =
    let rest : List (List ℕ) = filter (λ v. not (length v == 0)) ws in
    let p = h.0 in let l = p.some in
    ap (λ b. cond (not b) (w ∷ rest) rest) (ne_eqb (length w) 0 (λ e. omega arith)) ∙ ap (λ r. w ∷ r) (filter_printed ws h.1)

-- the words of printed words, with a space between them, are those words
pub words_joined : (w : List ℕ) (ws : List (List ℕ)) → AllByRecursion IsPrinted (w ∷ ws) → words (join_with_byte 32 (w ∷ ws)) ≡ w ∷ ws
words_joined w ws h = ap (filter (λ v. not (length v == 0))) (split_joined w ws h) ∙ filter_printed (w ∷ ws) h

-- ---- lines

ink_plain : (w : List ℕ) → AllByRecursion IsInk w → AllByRecursion IsPlain w
ink_plain [] h = tt
ink_plain (c ∷ w) h = let i = h.0 in let l = i.above in (record { above = omega arith; same = i.same }, ink_plain w h.1)

plain_more : (w rest : List ℕ) → AllByRecursion IsInk w → AllByRecursion IsPlain rest → AllByRecursion IsPlain (w ++ 32 ∷ rest)
plain_more [] rest h k = (record { above = omega arith; same = refl }, k)
plain_more (c ∷ w) rest h k = let i = h.0 in let l = i.above in (record { above = omega arith; same = i.same }, plain_more w rest h.1 k)

pub joined_plain : (w : List ℕ) (ws : List (List ℕ)) → AllByRecursion IsPrinted (w ∷ ws) → AllByRecursion IsPlain (join_with_byte 32 (w ∷ ws))
joined_plain w [] h = let p = h.0 in ink_plain w p.ink
joined_plain w (v ∷ vs) h = let p = h.0 in plain_more w (join_with_byte 32 (v ∷ vs)) p.ink (joined_plain v vs h.1)

-- a printed line is in upper case
pub line_upper : (l rest : List ℕ) → AllByRecursion IsPlain l → upper ((l ++ 10 ∷ []) ++ rest) ≡ l ++ 10 ∷ upper rest
line_upper [] rest h = refl
line_upper (c ∷ l) rest h = let p = h.0 in ap (λ d. d ∷ upper ((l ++ 10 ∷ []) ++ rest)) p.same ∙ ap (λ r. c ∷ r) (line_upper l rest h.1)

split_line : (l rest : List ℕ) → AllByRecursion IsPlain l → slice_split (λ c. c == 10) (l ++ 10 ∷ rest) ≡ l ∷ slice_split (λ c. c == 10) rest
split_line [] rest h = slice_split-cons_yes (λ b. b == 10) 10 rest refl
split_line (c ∷ l) rest h =
    let p = h.0 in let a = p.above in
    slice_split-cons_no (λ b. b == 10) c (l ++ 10 ∷ rest) (ne_eqb c 10 (λ e. omega arith)) ∙ ap (onto_first c) (split_line l rest h.1)

no_return : (l : List ℕ) (i : ℕ) → AllByRecursion IsPlain l → get_or l i 0 ≡ 13 → ⊥
no_return [] i h e = absurd (cc)
no_return (c ∷ l) zero h e = let p = h.0 in let a = p.above in omega arith
no_return (c ∷ l) (suc i) h e = no_return l i h.1 e

kept : (l : List ℕ) → AllByRecursion IsPlain l → strip_carriage_return l ≡ l
kept l h = ap (λ b. cond b (take (length l - 1) l) l) (ne_eqb (get_or l (length l - 1) 0) 13 (λ e. no_return l (length l - 1) h e))

first_part : (l : List ℕ) (parts : List (List ℕ)) → 0 < length parts → strip_carriage_return l ≡ l → lines_of_parts (l ∷ parts) ≡ l ∷ lines_of_parts parts
first_part l [] n e = absurd (omega arith)
first_part l (x ∷ parts) n e = ap (λ r. r ∷ lines_of_parts (x ∷ parts)) e

pub first_line : (l rest : List ℕ) → AllByRecursion IsPlain l → lines (l ++ 10 ∷ rest) ≡ l ∷ lines rest
first_line l rest h =
    ap lines_of_parts (split_line l rest h)
    ∙ first_part l (slice_split (λ c. c == 10) rest) (omega (arith, length-slice_split (λ c. c == 10) rest)) (kept l h)

-- a line with words is a row
pub first_row : (n : ℕ) (l : List ℕ) (rest : List (List ℕ)) (w : List ℕ) (ws : List (List ℕ)) → words l ≡ w ∷ ws → rows_from n (l ∷ rest) ≡ written n (w ∷ ws) ∷ rows_from (n + 1) rest
first_row n l rest w ws e =
    ap (λ v. cond (length v == 0) (rows_from (n + 1) rest) (written n v ∷ rows_from (n + 1) rest)) e
    ∙ ap (λ b. cond b (rows_from (n + 1) rest) (written n (w ∷ ws) ∷ rows_from (n + 1) rest)) (some_length w ws)
