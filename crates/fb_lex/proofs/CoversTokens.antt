-- What is found at the characters of a token is no less than the token.
use Rattle.std.proofs.Common.{◌≡◌, ℕ, ◌<◌, ◌≤◌, Bool, true, false, cond, List, [], ◌∷◌, ◌++◌, length, Option, Some, None, refl, sym, ap, subst, ◌∙◌, arith, length-append}
use Rattle.std.specs.Prelude.{◌==◌, ◌&&◌, ◌||◌, not, nat_le, codes}
use Rattle.std.specs.Char.{to_ascii_uppercase}
use Rattle.std.specs.Str.{bytes_eq}
use Rattle.std.proofs.lemmas.List.{append-nil}
use Rattle.std.proofs.lemmas.Bool.{leb-true}
use Rattle.std.proofs.lemmas.Bool.Decides.{nat_tests}
use Rattle.fb_words.specs.declared.mark.TheConstants.{WORDS, SIGNS}
use Rattle.fb_words.specs.declared.mark.Mark.{Mark}
use Rattle.fb_words.specs.declared.mark.Mark.TheVariants as m
use Rattle.fb_words.specs.declared.elem_type.ElemType.{ElemType}
use Rattle.fb_words.specs.Writing.{sign_text, word_text, type_of}
use Rattle.fb_model.specs.Tokens.{Kind, name, number, typed, duration, mark}
use Rattle.fb_model.specs.Spelling.{is_layout, is_digit, is_start, is_part, upper, digit_value, is_digit_in, IsParts, no_part, part, IsWord, word, whole, binary, octal, hexadecimal, IsNumber, decimal, based, IsSign, plus, minus, is_integer, IsSpan, is_time_word, IsLexeme, a_word, a_name, a_number, a_typed, a_duration, a_sign}
use Rattle.fb_lex.specs.Scanning.{or_else, with_rest, from_digit, whole_at, behind_hash, base_at, in_base, number_at, span_at, minus_at, integer_of, integer_type, typed_by, lasting, literal_of, literal_at, find, find_word, find_sign, named, parts_at, or_named, word_of, word_at, one_sign, sign_at, marked, plain, plain_at, begins_word, scan}
use Rattle.fb_lex.proofs.Words.{both_true, start_part, parts_more, parts_left, text_is, word_listed, sign_listed, find_none}
use Rattle.fb_lex.proofs.Sound.{ReadsAs, number_sound, literal_parts}
use Rattle.fb_lex.proofs.Steps.{number_long}
use Rattle.fb_lex.proofs.CoversNumbers.{Covers, empty, digit_is_not, not_true, number_covers}
use Rattle.fb_lex.proofs.CoversSpans.{span_head, span_less, span_covers}

-- ---- words

word_parts : {cs : List ℕ} → IsWord cs → IsParts cs
word_parts (word {c = c} h p) = part (start_part c h) p

word_begins : {cs : List ℕ} → IsWord cs → (rest : List ℕ) → begins_word (cs ++ rest) ≡ true
word_begins (word h p) rest = h

scan_word_is : {cs : List ℕ} → IsWord cs → (rest : List ℕ) → scan (cs ++ rest) ≡ Some (word_of (upper (cs ++ (parts_at rest).0)) (parts_at rest).1)
unfolding scan word_at
scan_word_is {cs = cs} w rest =
    ap (λ b. cond b (Some (word_at (cs ++ rest))) (plain_at (cs ++ rest))) (word_begins w rest)
    ∙ ap (λ (p : List ℕ × List ℕ). Some (word_of (upper p.0) p.1)) (parts_more (word_parts w) rest)

minus_less : (bytes : List ℕ) → length (minus_at bytes).1 ≤ length bytes
minus_less [] = omega arith
minus_less (c ∷ cs) = by_test (c == 45) where
  by_test : (b : Bool) → length (cond {A = Bool × List ℕ} b (true, cs) (false, c ∷ cs)).1 ≤ length (c ∷ cs)
  by_test true = omega arith
  by_test false = omega arith

number_less : (bytes : List ℕ) (n : ℕ) (left : List ℕ) → number_at bytes ≡ Some (n, left) → length left < length bytes
number_less bytes n left e = by_read (subst (λ q. ReadsAs IsNumber bytes q) e (number_sound bytes)) where
  by_read : ReadsAs IsNumber bytes (Some (n, left)) → length left < length bytes
  by_read r = let a = number_long r.1 in let b = ap length r.2 in let d = length-append r.0 left in omega arith

same_left : (k j : Kind) (x y : List ℕ) (q : Option (Kind × List ℕ)) → q ≡ Some (k, x) → q ≡ Some (j, y) → length x ≡ length y
same_left k j x y q f g = ap (λ (p : Kind × List ℕ). length p.1) (let s : (k, x) ≡ (j, y) = cc in s)

literal_of_less : (t : List ℕ) (q : Option Mark) (p : Bool × List ℕ) (k : Kind) (left : List ℕ) → literal_of t q p ≡ Some (k, left) → length left < length p.1
literal_of_less t q (negative, bytes) k left e = by_time (is_time_word t) e where
  by_span : (s : Option (ℕ × List ℕ)) → span_at 5 0 bytes ≡ s → lasting negative s ≡ Some (k, left) → length left < length bytes
  by_span None f g = absurd cc
  by_span (Some (n, more)) f g = let a = span_less 5 0 bytes n more f in let b = same_left (duration negative n) k more left (Some (duration negative n, more)) refl g in omega arith

  by_number : (o : Option ElemType) (s : Option (ℕ × List ℕ)) → number_at bytes ≡ s → typed_by o negative s ≡ Some (k, left) → length left < length bytes
  by_number None s f g = absurd cc
  by_number (Some t) None f g = absurd cc
  by_number (Some t) (Some (n, more)) f g = let a = number_less bytes n more f in let b = same_left (typed t negative n) k more left (Some (typed t negative n, more)) refl g in omega arith

  by_time : (b : Bool) → cond b (lasting negative (span_at 5 0 bytes)) (typed_by (integer_type q) negative (number_at bytes)) ≡ Some (k, left) → length left < length bytes
  by_time true f = by_span (span_at 5 0 bytes) refl f
  by_time false f = by_number (integer_type q) (number_at bytes) refl f

literal_less : (t : List ℕ) (q : Option Mark) (bytes : List ℕ) (k : Kind) (left : List ℕ) → literal_at t q bytes ≡ Some (k, left) → length left < length bytes
unfolding literal_at
literal_less t q [] k left e = absurd cc
literal_less t q (c ∷ cs) k left e = by_test (c == 35) e where
  by_test : (b : Bool) → cond b (literal_of t q (minus_at cs)) None ≡ Some (k, left) → length left < length (c ∷ cs)
  by_test true f = let a = literal_of_less t q (minus_at cs) k left f in let b = minus_less cs in omega arith
  by_test false f = absurd cc

name_covers : {cs : List ℕ} → IsWord cs → (k : Kind) → named (upper cs) (find word_text WORDS (upper cs)) ≡ k → (rest : List ℕ) → Covers (scan (cs ++ rest)) k rest
unfolding find_word
name_covers {cs = cs} w k e rest = by_literal (literal_at t (find word_text WORDS t) r.1) refl where
  r : List ℕ × List ℕ
  r = parts_at rest

  t : List ℕ
  t = upper (cs ++ r.0)

  by_literal : (o : Option (Kind × List ℕ)) → literal_at t (find word_text WORDS t) r.1 ≡ o → Covers (scan (cs ++ rest)) k rest
  by_literal None f =
      let n = parts_left rest in
      record {
        found = named t (find word_text WORDS t);
        left = r.1;
        is = scan_word_is w rest ∙ ap (λ o. Some (or_named t (find word_text WORDS t) r.1 o)) f;
        no_less = omega arith;
        same = λ g. ap (λ xs. named (upper (cs ++ xs)) (find word_text WORDS (upper (cs ++ xs)))) (empty r.0 (omega arith)) ∙ ap (λ xs. named (upper xs) (find word_text WORDS (upper xs))) (append-nil cs) ∙ e;
      }
  by_literal (Some (j, left)) f =
      let n = parts_left rest in
      let a = literal_less t (find word_text WORDS t) r.1 j left f in
      record {
        found = j;
        left = left;
        is = scan_word_is w rest ∙ ap (λ o. Some (or_named t (find word_text WORDS t) r.1 o)) f;
        no_less = omega arith;
        same = λ g. absurd (omega arith);
      }

-- ---- literals

-- a word and what follows the `#` behind it
hash_scan : {cs : List ℕ} → IsWord cs → (tail : List ℕ) (k : Kind) (left : List ℕ) → literal_of (upper cs) (find word_text WORDS (upper cs)) (minus_at tail) ≡ Some (k, left) → scan (cs ++ 35 ∷ tail) ≡ Some (k, left)
unfolding find_word literal_at
hash_scan {cs = cs} w tail k left e =
    scan_word_is w (35 ∷ tail)
    ∙ ap (λ xs. Some (word_of (upper xs) (35 ∷ tail))) (append-nil cs)
    ∙ ap (λ o. Some (or_named (upper cs) (find word_text WORDS (upper cs)) (35 ∷ tail) o)) e

minus_shows : {sign : List ℕ} {negative : Bool} → IsSign sign negative → (c : ℕ) (cs : List ℕ) → (c == 45) ≡ false → minus_at (sign ++ c ∷ cs) ≡ (negative, c ∷ cs)
minus_shows plus c cs h = ap (λ b. cond {A = Bool × List ℕ} b (true, cs) (false, c ∷ cs)) h
minus_shows minus c cs h = refl

all_parts : List ℕ → Bool
all_parts [] = true
all_parts (c ∷ cs) = is_part c && all_parts cs

wordy : List ℕ → Bool
wordy [] = false
wordy (c ∷ cs) = is_start c && all_parts cs

start_below : (c : ℕ) → is_start (to_ascii_uppercase c) ≡ true → is_start c ≡ true
start_below c h = grind (arith, nat_tests)

part_below : (c : ℕ) → is_part (to_ascii_uppercase c) ≡ true → is_part c ≡ true
part_below c h = grind (arith, nat_tests)

parts_below : (cs : List ℕ) → all_parts (upper cs) ≡ true → IsParts cs
unfolding all_parts
parts_below [] h = no_part
parts_below (c ∷ cs) h = let p = both_true (is_part (to_ascii_uppercase c)) (all_parts (upper cs)) h in part (part_below c p.0) (parts_below cs p.1)

word_below : (cs : List ℕ) → wordy (upper cs) ≡ true → IsWord cs
unfolding wordy
word_below [] h = absurd cc
word_below (c ∷ cs) h = let p = both_true (is_start (to_ascii_uppercase c)) (all_parts (upper cs)) h in word (start_below c p.0) (parts_below cs p.1)

-- the word of an integer type is a word, and none of a TIME
spelled : Option ElemType → List ℕ → Bool
spelled None ws = true
spelled (Some t) ws = wordy ws && not (is_integer t && is_time_word ws)

all_spelled : (k : Mark) → spelled (type_of k) (word_text k) ≡ true
unfolding spelled wordy all_parts
all_spelled m.Bool = refl
all_spelled k = refl

typed_word : (k : Mark) (t : ElemType) (ws : List ℕ) → word_text k ≡ ws → type_of k ≡ Some t → is_integer t ≡ true → (wordy ws ≡ true) × (is_time_word ws ≡ false)
unfolding spelled
typed_word k t ws e f h =
    let s : spelled (Some t) ws ≡ true = subst (λ w. spelled (Some t) w ≡ true) e (subst (λ o. spelled o (word_text k) ≡ true) f (all_spelled k)) in
    let p = both_true (wordy ws) (not (is_integer t && is_time_word ws)) s in
    (p.0, sym (ap (λ b. b && is_time_word ws) h) ∙ not_true (is_integer t && is_time_word ws) p.1)

time_word : (ws : List ℕ) → is_time_word ws ≡ true → wordy ws ≡ true
unfolding wordy all_parts
time_word ws h = by_tests (bytes_eq ws (codes "T")) (bytes_eq ws (codes "TIME")) refl refl h where
  by_tests : (a b : Bool) → bytes_eq ws (codes "T") ≡ a → bytes_eq ws (codes "TIME") ≡ b → (a || b) ≡ true → wordy ws ≡ true
  by_tests true b e f g = ap wordy (text_is ws (codes "T") e)
  by_tests false true e f g = ap wordy (text_is ws (codes "TIME") f)
  by_tests false false e f g = absurd cc

abbrev Headed : ℕ → List ℕ → Type 0
Headed x cs = (c : ℕ) × (ds : List ℕ) × (cs ≡ c ∷ ds) × ((c == x) ≡ false)

number_head : {n : ℕ} {cs : List ℕ} → IsNumber cs n → Headed 45 cs
number_head (decimal (whole {c = c} {cs = ds} h t)) = (c, ds, refl, digit_is_not 10 c 45 refl h)
number_head (based {cs = cs} binary w) = (50, 35 ∷ cs, refl, refl)
number_head (based {cs = cs} octal w) = (56, 35 ∷ cs, refl, refl)
number_head (based {cs = cs} hexadecimal w) = (49, 54 ∷ 35 ∷ cs, refl, refl)

word_found : (k : Mark) (cs : List ℕ) → IsWord cs → word_text k ≡ upper cs → find word_text WORDS (upper cs) ≡ Some k
word_found k [] w e = elim w [ ]
word_found k (c ∷ cs) w e = word_listed k (to_ascii_uppercase c) (upper cs) e

integer_listed : (k : Mark) (t : ElemType) (cs : List ℕ) → IsWord cs → word_text k ≡ upper cs → type_of k ≡ Some t → is_integer t ≡ true → integer_type (find word_text WORDS (upper cs)) ≡ Some t
integer_listed k t cs w e f h = ap integer_type (word_found k cs w e) ∙ ap integer_of f ∙ ap (λ b. cond b (Some t) None) h

typed_covers : (k : Mark) {t : ElemType} {negative : Bool} {n : ℕ} (cs sign ds : List ℕ)
    → word_text k ≡ upper cs → type_of k ≡ Some t → is_integer t ≡ true → IsSign sign negative → IsNumber ds n → (rest : List ℕ) → Covers (scan ((cs ++ 35 ∷ (sign ++ ds)) ++ rest)) (typed t negative n) rest
typed_covers k {t = t} {negative = negative} cs sign ds e f h s x rest =
    let shape = typed_word k t (upper cs) e f h in
    let w = word_below cs shape.0 in
    let head = number_head x in
    let c = number_covers x rest in
    let front : minus_at (sign ++ (ds ++ rest)) ≡ (negative, ds ++ rest) = ap (λ l. minus_at (sign ++ (l ++ rest))) head.2 ∙ minus_shows s head.0 (head.1 ++ rest) head.3 ∙ ap (λ l. (negative, l ++ rest)) (sym head.2) in
    let found : literal_of (upper cs) (find word_text WORDS (upper cs)) (minus_at (sign ++ (ds ++ rest))) ≡ Some (typed t negative c.found, c.left) =
    ap (literal_of (upper cs) (find word_text WORDS (upper cs))) front
    ∙ ap (λ b. cond b (lasting negative (span_at 5 0 (ds ++ rest))) (typed_by (integer_type (find word_text WORDS (upper cs))) negative (number_at (ds ++ rest)))) shape.1
    ∙ ap (λ o. typed_by o negative (number_at (ds ++ rest))) (integer_listed k t cs w e f h)
    ∙ ap (typed_by (Some t) negative) c.is in
    record {
      found = typed t negative c.found;
      left = c.left;
      is = ap scan (literal_parts cs sign ds rest) ∙ hash_scan w (sign ++ (ds ++ rest)) (typed t negative c.found) c.left found;
      no_less = c.no_less;
      same = λ g. ap (typed t negative) (c.same g);
    }

duration_covers : {negative : Bool} {n : ℕ} (cs sign ds : List ℕ) → is_time_word (upper cs) ≡ true → IsSign sign negative → IsSpan 0 ds n → (rest : List ℕ) → Covers (scan ((cs ++ 35 ∷ (sign ++ ds)) ++ rest)) (duration negative n) rest
duration_covers {negative = negative} cs sign ds h s x rest =
    let w = word_below cs (time_word (upper cs) h) in
    let head = span_head x in
    let c = span_covers x 5 (omega arith) rest in
    let front : minus_at (sign ++ (ds ++ rest)) ≡ (negative, ds ++ rest) = ap (λ l. minus_at (sign ++ (l ++ rest))) head.2 ∙ minus_shows s head.0 (head.1 ++ rest) (digit_is_not 10 head.0 45 refl head.3) ∙ ap (λ l. (negative, l ++ rest)) (sym head.2) in
    let found : literal_of (upper cs) (find word_text WORDS (upper cs)) (minus_at (sign ++ (ds ++ rest))) ≡ Some (duration negative c.found, c.left) =
    ap (literal_of (upper cs) (find word_text WORDS (upper cs))) front
    ∙ ap (λ b. cond b (lasting negative (span_at 5 0 (ds ++ rest))) (typed_by (integer_type (find word_text WORDS (upper cs))) negative (number_at (ds ++ rest)))) h
    ∙ ap (lasting negative) c.is in
    record {
      found = duration negative c.found;
      left = c.left;
      is = ap scan (literal_parts cs sign ds rest) ∙ hash_scan w (sign ++ (ds ++ rest)) (duration negative c.found) c.left found;
      no_less = c.no_less;
      same = λ g. ap (duration negative) (c.same g);
    }

-- ---- numbers and signs

plain_scan : (bytes : List ℕ) → begins_word bytes ≡ false → scan bytes ≡ plain (number_at bytes) (marked (sign_at bytes))
unfolding scan plain_at
plain_scan bytes h = ap (λ b. cond b (Some (word_at bytes)) (plain_at bytes)) h

digit_no_start : (c : ℕ) → is_digit_in 10 c ≡ true → is_start c ≡ false
digit_no_start c h = grind (arith, nat_tests)

number_begins : {n : ℕ} {cs : List ℕ} → IsNumber cs n → (rest : List ℕ) → begins_word (cs ++ rest) ≡ false
number_begins (decimal (whole {c = c} h t)) rest = digit_no_start c h
number_begins (based binary w) rest = refl
number_begins (based octal w) rest = refl
number_begins (based hexadecimal w) rest = refl

plain_covers : {n : ℕ} {cs : List ℕ} → IsNumber cs n → (rest : List ℕ) → Covers (scan (cs ++ rest)) (number n) rest
plain_covers {cs = cs} x rest =
    let c = number_covers x rest in
    record {
      found = number c.found;
      left = c.left;
      is = plain_scan (cs ++ rest) (number_begins x rest) ∙ ap (λ q. plain q (marked (sign_at (cs ++ rest)))) c.is;
      no_less = c.no_less;
      same = λ g. ap number (c.same g);
    }

-- a sign begins no word and no number, and is no layout
outside : List ℕ → Bool
outside [] = true
outside (c ∷ cs) = not (is_start c) && (not (is_digit_in 10 c) && (not (is_digit c) && not (is_layout c)))

all_outside : (k : Mark) → outside (sign_text k) ≡ true
unfolding outside
all_outside m.Assign = refl
all_outside k = refl

all_short : (k : Mark) → nat_le (length (sign_text k)) 2 ≡ true
all_short m.Assign = refl
all_short k = refl

abbrev Outside : ℕ → Type 0
Outside c = (is_start c ≡ false) × (is_digit_in 10 c ≡ false) × (is_digit c ≡ false) × (not (is_layout c) ≡ true)

sign_outside : (k : Mark) (c : ℕ) (cs : List ℕ) → sign_text k ≡ c ∷ cs → Outside c
unfolding outside
sign_outside k c cs e =
    let out : outside (c ∷ cs) ≡ true = subst (λ t. outside t ≡ true) e (all_outside k) in
    let p = both_true (not (is_start c)) (not (is_digit_in 10 c) && (not (is_digit c) && not (is_layout c))) out in
    let q = both_true (not (is_digit_in 10 c)) (not (is_digit c) && not (is_layout c)) p.1 in
    let r = both_true (not (is_digit c)) (not (is_layout c)) q.1 in
    (not_true (is_start c) p.0, not_true (is_digit_in 10 c) q.0, not_true (is_digit c) r.0, r.1)

digit_is : (c x : ℕ) → is_digit c ≡ false → is_digit x ≡ true → (c == x) ≡ false
digit_is c x h g = grind (arith, nat_tests)

no_base : (c : ℕ) (cs : List ℕ) → is_digit c ≡ false → base_at (c ∷ cs) ≡ None
no_base c [] h = refl
no_base c (d ∷ cs) h = by_tests (d == 35) (c == 50) (c == 56) (c == 49) (digit_is c 50 h refl) (digit_is c 56 h refl) (digit_is c 49 h refl) where
  by_tests : (p q r s : Bool) → q ≡ false → r ≡ false → s ≡ false → cond p (cond q (Some (2, cs)) (cond r (Some (8, cs)) None)) (cond (s && (d == 54)) (behind_hash cs) None) ≡ None
  by_tests true true r s x y z = absurd cc
  by_tests true false true s x y z = absurd cc
  by_tests true false false s x y z = refl
  by_tests false q r true x y z = absurd cc
  by_tests false q r false x y z = refl

no_number : (c : ℕ) (cs : List ℕ) → is_digit_in 10 c ≡ false → is_digit c ≡ false → number_at (c ∷ cs) ≡ None
unfolding number_at
no_number c cs h g = ap (λ q. or_else (in_base q) (whole_at 10 (c ∷ cs))) (no_base c cs g) ∙ ap (λ b. from_digit 10 (with_rest cs (cond b (Some (digit_value c)) None))) h

sign_scan : (k : Mark) (c : ℕ) (cs rest : List ℕ) → sign_text k ≡ c ∷ cs → scan (c ∷ rest) ≡ marked (sign_at (c ∷ rest))
sign_scan k c cs rest e =
    let o = sign_outside k c cs e in
    plain_scan (c ∷ rest) o.0 ∙ ap (λ q. plain q (marked (sign_at (c ∷ rest)))) (no_number c rest o.1 o.2)

one_listed : (k : Mark) (c : ℕ) → sign_text k ≡ c ∷ [] → (rest : List ℕ) → one_sign (c ∷ rest) ≡ Some (k, rest)
unfolding find_sign
one_listed k c e rest = ap (with_rest rest) (sign_listed k c [] e)

sign_covers : (k : Mark) (c : ℕ) (cs : List ℕ) → sign_text k ≡ c ∷ cs → (rest : List ℕ) → Covers (scan ((c ∷ cs) ++ rest)) (mark k) rest
unfolding sign_at find_sign
sign_covers k c [] e [] = record { found = mark k; left = []; is = sign_scan k c [] [] e ∙ ap marked (one_listed k c e []); no_less = omega arith; same = λ f. refl }
sign_covers k c [] e (d ∷ ds) = by_sign (find sign_text SIGNS (c ∷ d ∷ [])) refl where
  by_sign : (q : Option Mark) → find sign_text SIGNS (c ∷ d ∷ []) ≡ q → Covers (scan (c ∷ d ∷ ds)) (mark k) (d ∷ ds)
  by_sign None f =
      record {
        found = mark k;
        left = d ∷ ds;
        is = sign_scan k c [] (d ∷ ds) e ∙ ap (λ q. marked (or_else (with_rest ds q) (one_sign (c ∷ d ∷ ds)))) f ∙ ap marked (one_listed k c e (d ∷ ds));
        no_less = omega arith;
        same = λ g. refl;
      }
  by_sign (Some j) f = record { found = mark j; left = ds; is = sign_scan k c [] (d ∷ ds) e ∙ ap (λ q. marked (or_else (with_rest ds q) (one_sign (c ∷ d ∷ ds)))) f; no_less = omega arith; same = λ g. absurd (omega arith) }
sign_covers k c (d ∷ []) e rest =
    record { found = mark k; left = rest; is = sign_scan k c (d ∷ []) (d ∷ rest) e ∙ ap (λ q. marked (or_else (with_rest rest q) (one_sign (c ∷ d ∷ rest)))) (sign_listed k c (d ∷ []) e); no_less = omega arith; same = λ f. refl }
sign_covers k c (d ∷ x ∷ xs) e rest = let a = leb-true (length (sign_text k)) 2 (all_short k) in let b = ap length e in absurd (omega arith)

-- ---- tokens

pub covers : {lexeme : List ℕ} {k : Kind} → IsLexeme lexeme k → (rest : List ℕ) → Covers (scan (lexeme ++ rest)) k rest
covers (a_word {cs = cs} {k = k} w e) rest = name_covers w (mark k) (ap (named (upper cs)) (word_found k cs w e)) rest
covers (a_name {cs = cs} w n) rest = name_covers w (name (upper cs)) (ap (named (upper cs)) (find_none word_text WORDS (upper cs) n)) rest
covers (a_number x) rest = plain_covers x rest
covers (a_typed k cs sign ds e f h s x) rest = typed_covers k cs sign ds e f h s x rest
covers (a_duration cs sign ds h s x) rest = duration_covers cs sign ds h s x rest
covers (a_sign {c = c} {cs = cs} {k = k} e) rest = sign_covers k c cs e rest

-- ---- a token begins with no layout

unfoldable pub is_visible : List ℕ → Bool
is_visible [] = false
is_visible (c ∷ cs) = not (is_layout c)

start_shown : (c : ℕ) → is_start c ≡ true → not (is_layout c) ≡ true
start_shown c h = grind (arith, nat_tests)

digit_shown : (c : ℕ) → is_digit_in 10 c ≡ true → not (is_layout c) ≡ true
digit_shown c h = grind (arith, nat_tests)

word_shown : {cs : List ℕ} → IsWord cs → (rest : List ℕ) → is_visible (cs ++ rest) ≡ true
unfolding is_visible
word_shown (word {c = c} h p) rest = start_shown c h

number_shown : {n : ℕ} {cs : List ℕ} → IsNumber cs n → (rest : List ℕ) → is_visible (cs ++ rest) ≡ true
unfolding is_visible
number_shown (decimal (whole {c = c} h t)) rest = digit_shown c h
number_shown (based binary w) rest = refl
number_shown (based octal w) rest = refl
number_shown (based hexadecimal w) rest = refl

pub visible : {lexeme : List ℕ} {k : Kind} → IsLexeme lexeme k → (rest : List ℕ) → is_visible (lexeme ++ rest) ≡ true
unfolding is_visible
visible (a_word w e) rest = word_shown w rest
visible (a_name w n) rest = word_shown w rest
visible (a_number x) rest = number_shown x rest
visible (a_typed k {t = t} cs sign ds e f h s x) rest = ap is_visible (literal_parts cs sign ds rest) ∙ word_shown (word_below cs (typed_word k t (upper cs) e f h).0) (35 ∷ (sign ++ (ds ++ rest)))
visible (a_duration cs sign ds h s x) rest = ap is_visible (literal_parts cs sign ds rest) ∙ word_shown (word_below cs (time_word (upper cs) h)) (35 ∷ (sign ++ (ds ++ rest)))
visible (a_sign {c = c} {cs = cs} {k = k} e) rest = (sign_outside k c cs e).3
