-- What is found at the front is what the definition says.
use Rattle.std.proofs.Common.{◌≡◌, ◌≢◌, ℕ, zero, suc, ◌+◌, ◌*◌, ◌≤◌, Bool, true, false, cond, List, [], ◌∷◌, ◌++◌, length, Option, Some, None, refl, sym, ap, subst, ◌∙◌, arith, append_assoc}
use Rattle.std.specs.Prelude.{◌==◌, ◌&&◌, nat_lt, codes}
use Rattle.std.specs.Char.{to_ascii_uppercase}
use Rattle.std.proofs.lemmas.Bool.{eqb-true}
use Rattle.std.proofs.lemmas.Bool.Decides.{nat_tests}
use Rattle.fb_words.specs.declared.mark.TheConstants.{WORDS, SIGNS}
use Rattle.fb_words.specs.declared.mark.Mark.{Mark}
use Rattle.fb_words.specs.declared.elem_type.ElemType.{ElemType}
use Rattle.fb_words.specs.Writing.{sign_text, word_text, type_of}
use Rattle.fb_model.specs.Tokens.{Kind, mark}
use Rattle.fb_model.specs.Spelling.{is_start, upper, digit_value, is_digit_in, IsWord, word, IsDigits, no_more, digit, joined, IsWhole, whole, IsBase, binary, octal, hexadecimal, IsNumber, decimal, based, IsSign, plus, minus, is_integer, IsUnit, days, hours, minutes, seconds, milliseconds, IsJoint, none, joint, IsAmount, IsSpan, last_part, more_parts, is_time_word, IsLexeme, a_word, a_name, a_number, a_typed, a_duration, a_sign}
use Rattle.fb_lex.specs.declared.span.Unit.{Unit as TimeUnit}
use Rattle.fb_lex.specs.declared.span.Unit.TheVariants as units
use Rattle.fb_lex.specs.Scanning.{or_else, with_rest, digits_at, from_digit, whole_at, behind_hash, named_base, base_at, in_base, number_at, rank_of, size_of, behind_m, unit_at, counted, with_unit, amount_at, behind_joint, and_more, from_amount, span_at, minus_at, integer_of, integer_type, typed_by, lasting, literal_of, literal_at, find, find_word, find_sign, named, parts_at, or_named, word_of, word_at, sign_at, marked, plain, plain_at, begins_word, scan}
use Rattle.fb_lex.proofs.Words.{pick, both_true, start_part, parts_at_part, parts_sound, find_sound, word_listed}

-- something is spelled at the front, and this is left
abbrev pub ReadsAs : {A : Type 0} → (List ℕ → A → Type 0) → List ℕ → Option (A × List ℕ) → Type 0
ReadsAs R bytes None = Unit {0}
ReadsAs R bytes (Some p) = (lexeme : List ℕ) × R lexeme p.0 × (bytes ≡ lexeme ++ p.1)

-- ---- numbers

abbrev pub ReadsDigits : ℕ → ℕ → List ℕ → ℕ × List ℕ → Type 0
ReadsDigits base v bytes r = (lexeme : List ℕ) × IsDigits base v lexeme r.0 × (bytes ≡ lexeme ++ r.1)

no_digits : (base v : ℕ) (bytes : List ℕ) → ReadsDigits base v bytes (v, bytes)
no_digits base v bytes = ([], no_more, refl)

one_digit : (base v c : ℕ) (bytes : List ℕ) (r : ℕ × List ℕ) → is_digit_in base c ≡ true → ReadsDigits base (v * base + digit_value c) bytes r → ReadsDigits base v (c ∷ bytes) r
one_digit base v c bytes r h a = (c ∷ a.0, digit h a.1, ap (λ xs. c ∷ xs) a.2)

two_digits : (base v c d : ℕ) (bytes : List ℕ) (r : ℕ × List ℕ) → (c == 95) && is_digit_in base d ≡ true → ReadsDigits base (v * base + digit_value d) bytes r → ReadsDigits base v (c ∷ d ∷ bytes) r
two_digits base v c d bytes r h a =
    let p = both_true (c == 95) (is_digit_in base d) h in
    let e : 95 ≡ c = sym (eqb-true c 95 p.0) in
    subst (λ x. ReadsDigits base v (x ∷ d ∷ bytes) r) e (95 ∷ d ∷ a.0, joined p.1 a.1, ap (λ xs. 95 ∷ d ∷ xs) a.2)

pub digits_sound : (base : ℕ) (bytes : List ℕ) (v : ℕ) → ReadsDigits base v bytes (digits_at base v bytes)
unfolding digits_at
digits_sound base [] v = no_digits base v []
digits_sound base (c ∷ []) v = pick (ReadsDigits base v (c ∷ [])) (is_digit_in base c) (v * base + digit_value c, []) (v, c ∷ []) (λ h. one_digit base v c [] _ h (no_digits base _ [])) (λ h. no_digits base v (c ∷ []))
digits_sound base (c ∷ d ∷ cs) v =
    let again = digits_sound base (d ∷ cs) (v * base + digit_value c) in
    let behind = digits_sound base cs (v * base + digit_value d) in
    pick (ReadsDigits base v (c ∷ d ∷ cs)) (is_digit_in base c) (digits_at base (v * base + digit_value c) (d ∷ cs)) (cond ((c == 95) && is_digit_in base d) (digits_at base (v * base + digit_value d) cs) (v, c ∷ d ∷ cs))
    (λ h. one_digit base v c (d ∷ cs) _ h again)
    (λ h. pick (ReadsDigits base v (c ∷ d ∷ cs)) ((c == 95) && is_digit_in base d) (digits_at base (v * base + digit_value d) cs) (v, c ∷ d ∷ cs) (λ g. two_digits base v c d cs _ g behind) (λ g. no_digits base v (c ∷ d ∷ cs)))

pub whole_sound : (base : ℕ) (bytes : List ℕ) → ReadsAs (IsWhole base) bytes (whole_at base bytes)
whole_sound base [] = tt
whole_sound base (c ∷ cs) = by_test (is_digit_in base c) refl where
  by_test : (b : Bool) → is_digit_in base c ≡ b → ReadsAs (IsWhole base) (c ∷ cs) (from_digit base (with_rest cs (cond b (Some (digit_value c)) None)))
  by_test true h = let p = digits_sound base cs (digit_value c) in (c ∷ p.0, whole h p.1, ap (λ xs. c ∷ xs) p.2)
  by_test false h = tt

two_same : (c d x y : ℕ) (cs : List ℕ) → (c == x) ≡ true → (d == y) ≡ true → c ∷ d ∷ cs ≡ x ∷ y ∷ cs
two_same c d x y cs h g = ap (λ z. z ∷ d ∷ cs) (eqb-true c x h) ∙ ap (λ z. x ∷ z ∷ cs) (eqb-true d y g)

abbrev pub ReadsBase : List ℕ → Option (ℕ × List ℕ) → Type 0
ReadsBase bytes q = ReadsAs (λ front base. IsBase base front) bytes q

hash_sound : (c d : ℕ) (cs : List ℕ) → (c == 49) ≡ true → (d == 54) ≡ true → ReadsBase (c ∷ d ∷ cs) (behind_hash cs)
hash_sound c d [] h g = tt
hash_sound c d (e ∷ cs) h g = pick (ReadsBase (c ∷ d ∷ e ∷ cs)) (e == 35) (Some (16, cs)) None (λ f. (codes "16#", hexadecimal, two_same c d 49 54 (e ∷ cs) h g ∙ ap (λ z. 49 ∷ 54 ∷ z ∷ cs) (eqb-true e 35 f))) (λ f. tt)

pub base_sound : (bytes : List ℕ) → ReadsBase bytes (base_at bytes)
base_sound [] = tt
base_sound (c ∷ []) = tt
base_sound (c ∷ d ∷ cs) =
    pick (ReadsBase (c ∷ d ∷ cs)) (d == 35) (named_base c cs) (cond ((c == 49) && (d == 54)) (behind_hash cs) None)
    (λ h. pick (ReadsBase (c ∷ d ∷ cs)) (c == 50) (Some (2, cs)) (cond (c == 56) (Some (8, cs)) None) (λ g. (codes "2#", binary, two_same c d 50 35 cs g h)) (λ _. pick (ReadsBase (c ∷ d ∷ cs)) (c == 56) (Some (8, cs)) None (λ g. (codes "8#", octal, two_same c d 56 35 cs g h)) (λ _. tt)))
    (λ _. pick (ReadsBase (c ∷ d ∷ cs)) ((c == 49) && (d == 54)) (behind_hash cs) None (λ g. let p = both_true (c == 49) (d == 54) g in hash_sound c d cs p.0 p.1) (λ _. tt))

pub based_sound : (bytes : List ℕ) → ReadsAs IsNumber bytes (in_base (base_at bytes))
based_sound bytes = by_base (base_at bytes) (base_sound bytes) where
  by_base : (q : Option (ℕ × List ℕ)) → ReadsBase bytes q → ReadsAs IsNumber bytes (in_base q)
  by_base None r = tt
  by_base (Some (base, rest)) r = by_whole (whole_at base rest) (whole_sound base rest) where
    by_whole : (w : Option (ℕ × List ℕ)) → ReadsAs (IsWhole base) rest w → ReadsAs IsNumber bytes w
    by_whole None s = tt
    by_whole (Some (n, left)) s = (r.0 ++ s.0, based r.1 s.1, r.2 ∙ ap (λ l. r.0 ++ l) s.2 ∙ sym (append_assoc r.0 s.0 left))

or_sound : {A : Type 0} (R : List ℕ → A → Type 0) (bytes : List ℕ) (p q : Option (A × List ℕ)) → ReadsAs R bytes p → ReadsAs R bytes q → ReadsAs R bytes (or_else p q)
or_sound R bytes None q a b = b
or_sound R bytes (Some p) q a b = a

pub number_sound : (bytes : List ℕ) → ReadsAs IsNumber bytes (number_at bytes)
unfolding number_at
number_sound bytes = or_sound IsNumber bytes (in_base (base_at bytes)) (whole_at 10 bytes) (based_sound bytes) (by_whole (whole_at 10 bytes) (whole_sound 10 bytes)) where
  by_whole : (w : Option (ℕ × List ℕ)) → ReadsAs (IsWhole 10) bytes w → ReadsAs IsNumber bytes w
  by_whole None s = tt
  by_whole (Some (n, left)) s = (s.0, decimal s.1, s.2)

-- ---- the parts of a TIME

abbrev pub IsUnitText : List ℕ → TimeUnit → Type 0
IsUnitText cs u = IsUnit (rank_of u) (upper cs) (size_of u)

unit_text : (u : TimeUnit) (c x : ℕ) → IsUnit (rank_of u) (x ∷ []) (size_of u) → (to_ascii_uppercase c == x) ≡ true → IsUnitText (c ∷ []) u
unit_text u c x i h = subst (λ z. IsUnit (rank_of u) (z ∷ []) (size_of u)) (sym (eqb-true (to_ascii_uppercase c) x h)) i

m_sound : (c : ℕ) (cs : List ℕ) → (to_ascii_uppercase c == 77) ≡ true → ReadsAs IsUnitText (c ∷ cs) (Some (behind_m cs))
m_sound c [] h = (c ∷ [], unit_text units.Minutes c 77 minutes h, refl)
m_sound c (d ∷ cs) h =
    pick (λ r. ReadsAs IsUnitText (c ∷ d ∷ cs) (Some r)) (to_ascii_uppercase d == 83) (units.Milliseconds, cs) (units.Minutes, d ∷ cs)
    (λ g. (c ∷ d ∷ [], subst (λ z. IsUnit 4 z 1) (sym (two_same (to_ascii_uppercase c) (to_ascii_uppercase d) 77 83 [] h g)) milliseconds, refl))
    (λ _. (c ∷ [], unit_text units.Minutes c 77 minutes h, refl))

pub unit_sound : (bytes : List ℕ) → ReadsAs IsUnitText bytes (unit_at bytes)
unfolding unit_at
unit_sound [] = tt
unit_sound (c ∷ cs) =
    let x = to_ascii_uppercase c in
    let s3 = pick (ReadsAs IsUnitText (c ∷ cs)) (x == 83) (Some (units.Seconds, cs)) None (λ h. (c ∷ [], unit_text units.Seconds c 83 seconds h, refl)) (λ _. tt) in
    let s2 = pick (ReadsAs IsUnitText (c ∷ cs)) (x == 77) (Some (behind_m cs)) (cond (x == 83) (Some (units.Seconds, cs)) None) (λ h. m_sound c cs h) (λ _. s3) in
    let s1 = pick (ReadsAs IsUnitText (c ∷ cs)) (x == 72) (Some (units.Hours, cs)) (cond (x == 77) (Some (behind_m cs)) (cond (x == 83) (Some (units.Seconds, cs)) None)) (λ h. (c ∷ [], unit_text units.Hours c 72 hours h, refl)) (λ _. s2) in
    pick (ReadsAs IsUnitText (c ∷ cs)) (x == 68) (Some (units.Days, cs)) (cond (x == 72) (Some (units.Hours, cs)) (cond (x == 77) (Some (behind_m cs)) (cond (x == 83) (Some (units.Seconds, cs)) None))) (λ h. (c ∷ [], unit_text units.Days c 68 days h, refl)) (λ _. s1)

abbrev pub ReadsAmount : List ℕ → Option (TimeUnit × ℕ × List ℕ) → Type 0
ReadsAmount bytes None = Unit {0}
ReadsAmount bytes (Some p) = (lexeme : List ℕ) × IsAmount (rank_of p.0) lexeme p.1 × (bytes ≡ lexeme ++ p.2)

pub amount_sound : (bytes : List ℕ) → ReadsAmount bytes (amount_at bytes)
unfolding amount_at
amount_sound bytes = by_count (whole_at 10 bytes) (whole_sound 10 bytes) where
  by_count : (q : Option (ℕ × List ℕ)) → ReadsAs (IsWhole 10) bytes q → ReadsAmount bytes (with_unit q)
  by_count None r = tt
  by_count (Some (n, rest)) r = by_unit (unit_at rest) (unit_sound rest) where
    by_unit : (p : Option (TimeUnit × List ℕ)) → ReadsAs IsUnitText rest p → ReadsAmount bytes (counted n p)
    by_unit None s = tt
    by_unit (Some (u, left)) s =
        (r.0 ++ s.0, record { count = n; size = size_of u; digits = r.0; unit = s.0; is = refl; number = r.1; unit_is = s.1; value = refl }, r.2 ∙ ap (λ l. r.0 ++ l) s.2 ∙ sym (append_assoc r.0 s.0 left))

pub joint_sound : (bytes : List ℕ) → (front : List ℕ) × IsJoint front × (bytes ≡ front ++ behind_joint bytes)
joint_sound [] = ([], none, refl)
joint_sound (c ∷ cs) =
    pick (λ (l : List ℕ). (front : List ℕ) × IsJoint front × (c ∷ cs ≡ front ++ l)) (c == 95) cs (c ∷ cs)
    (λ h. (codes "_", joint, ap (λ z. z ∷ cs) (eqb-true c 95 h))) (λ _. ([], none, refl))

not_less : (r least : ℕ) → nat_lt r least ≡ false → least ≤ r
not_less r least h = grind (arith, nat_tests)

pub span_sound : (m least : ℕ) (bytes : List ℕ) → ReadsAs (IsSpan least) bytes (span_at m least bytes)
unfolding span_at
span_sound zero least bytes = tt
span_sound (suc m) least bytes = by_amount (span_sound m) (amount_at bytes) (amount_sound bytes) where
  by_amount : ((l : ℕ) (bs : List ℕ) → ReadsAs (IsSpan l) bs (span_at m l bs)) → (q : Option (TimeUnit × ℕ × List ℕ)) → ReadsAmount bytes q → ReadsAs (IsSpan least) bytes (from_amount (span_at m) least q)
  by_amount again None r = tt
  by_amount again (Some (u, n, rest)) r =
      pick (ReadsAs (IsSpan least) bytes) (nat_lt (rank_of u) least) None (and_more n rest (span_at m (rank_of u + 1) (behind_joint rest))) (λ _. tt)
      (λ h. by_more (not_less (rank_of u) least h) (span_at m (rank_of u + 1) (behind_joint rest)) (again (rank_of u + 1) (behind_joint rest))) where
        by_more : least ≤ rank_of u → (p : Option (ℕ × List ℕ)) → ReadsAs (IsSpan (rank_of u + 1)) (behind_joint rest) p → ReadsAs (IsSpan least) bytes (and_more n rest p)
        by_more le None s = (r.0, last_part le r.1, r.2)
        by_more le (Some (k, left)) s =
            let j = joint_sound rest in (
              r.0 ++ j.0 ++ s.0,
              more_parts le r.1 j.1 s.1,
              r.2 ∙ ap (λ l. r.0 ++ l) (j.2 ∙ ap (λ l. j.0 ++ l) s.2) ∙ sym (append_assoc (r.0 ++ j.0) s.0 left ∙ append_assoc r.0 j.0 (s.0 ++ left)),
            )

-- ---- literals

pub minus_sound : (bytes : List ℕ) → (sign : List ℕ) × IsSign sign (minus_at bytes).0 × (bytes ≡ sign ++ (minus_at bytes).1)
minus_sound [] = ([], plus, refl)
minus_sound (c ∷ cs) =
    pick (λ (p : Bool × List ℕ). (sign : List ℕ) × IsSign sign p.0 × (c ∷ cs ≡ sign ++ p.1)) (c == 45) (true, cs) (false, c ∷ cs)
    (λ h. (codes "-", minus, ap (λ z. z ∷ cs) (eqb-true c 45 h))) (λ _. ([], plus, refl))

pub literal_parts : (cs sign ds more : List ℕ) → (cs ++ 35 ∷ (sign ++ ds)) ++ more ≡ cs ++ 35 ∷ (sign ++ (ds ++ more))
literal_parts cs sign ds more = append_assoc cs (35 ∷ (sign ++ ds)) more ∙ ap (λ l. cs ++ 35 ∷ l) (append_assoc sign ds more)

abbrev pub ReadsKind : List ℕ → Option (Kind × List ℕ) → Type 0
ReadsKind bytes q = ReadsAs IsLexeme bytes q

lasting_sound : (cs sign left : List ℕ) (negative : Bool) → is_time_word (upper cs) ≡ true → IsSign sign negative → (q : Option (ℕ × List ℕ)) → ReadsAs (IsSpan 0) left q → ReadsKind (cs ++ 35 ∷ (sign ++ left)) (lasting negative q)
lasting_sound cs sign left negative h s None r = tt
lasting_sound cs sign left negative h s (Some (n, more)) r = (cs ++ 35 ∷ (sign ++ r.0), a_duration cs sign r.0 h s r.1, ap (λ l. cs ++ 35 ∷ (sign ++ l)) r.2 ∙ sym (literal_parts cs sign r.0 more))

typed_sound : (cs sign left : List ℕ) (negative : Bool) (k : Mark) → word_text k ≡ upper cs → IsSign sign negative → (o : Option ElemType) → type_of k ≡ o → (q : Option (ℕ × List ℕ)) → ReadsAs IsNumber left q
    → ReadsKind (cs ++ 35 ∷ (sign ++ left)) (typed_by (integer_of o) negative q)
typed_sound cs sign left negative k e s None f q r = tt
typed_sound cs sign left negative k e s (Some t) f q r =
    pick (λ i. ReadsKind (cs ++ 35 ∷ (sign ++ left)) (typed_by i negative q)) (is_integer t) (Some t) None (λ h. by_number q r h) (λ _. tt) where
      by_number : (q : Option (ℕ × List ℕ)) → ReadsAs IsNumber left q → is_integer t ≡ true → ReadsKind (cs ++ 35 ∷ (sign ++ left)) (typed_by (Some t) negative q)
      by_number None r h = tt
      by_number (Some (n, more)) r h = (cs ++ 35 ∷ (sign ++ r.0), a_typed k cs sign r.0 e f h s r.1, ap (λ l. cs ++ 35 ∷ (sign ++ l)) r.2 ∙ sym (literal_parts cs sign r.0 more))

literal_by : (cs sign left : List ℕ) (negative : Bool) → IsSign sign negative → (q : Option Mark) → find word_text WORDS (upper cs) ≡ q → ReadsKind (cs ++ 35 ∷ (sign ++ left)) (literal_of (upper cs) q (negative, left))
literal_by cs sign left negative s q e =
    pick (ReadsKind (cs ++ 35 ∷ (sign ++ left))) (is_time_word (upper cs)) (lasting negative (span_at 5 0 left)) (typed_by (integer_type q) negative (number_at left))
    (λ h. lasting_sound cs sign left negative h s (span_at 5 0 left) (span_sound 5 0 left))
    (λ _. by_mark q e) where
      by_mark : (q : Option Mark) → find word_text WORDS (upper cs) ≡ q → ReadsKind (cs ++ 35 ∷ (sign ++ left)) (typed_by (integer_type q) negative (number_at left))
      by_mark None f = tt
      by_mark (Some k) f = typed_sound cs sign left negative k (find_sound word_text WORDS (upper cs) k f) s (type_of k) refl (number_at left) (number_sound left)

pub literal_sound : (cs rest : List ℕ) (q : Option Mark) → find word_text WORDS (upper cs) ≡ q → ReadsKind (cs ++ rest) (literal_at (upper cs) q rest)
unfolding literal_at
literal_sound cs [] q e = tt
literal_sound cs (c ∷ rest) q e =
    pick (ReadsKind (cs ++ c ∷ rest)) (c == 35) (literal_of (upper cs) q (minus_at rest)) None
    (λ h. subst (λ l. ReadsKind (cs ++ l) (literal_of (upper cs) q (minus_at rest))) (sym (ap (λ z. z ∷ rest) (eqb-true c 35 h) ∙ ap (λ l. 35 ∷ l) s.2)) (literal_by cs s.0 (minus_at rest).1 (minus_at rest).0 s.1 q e))
    (λ _. tt) where
      s : (sign : List ℕ) × IsSign sign (minus_at rest).0 × (rest ≡ sign ++ (minus_at rest).1)
      s = minus_sound rest

-- ---- tokens

abbrev pub Reads : List ℕ → Kind × List ℕ → Type 0
Reads bytes p = (lexeme : List ℕ) × IsLexeme lexeme p.0 × (bytes ≡ lexeme ++ p.1)

named_sound : (cs : List ℕ) → IsWord cs → (q : Option Mark) → find word_text WORDS (upper cs) ≡ q → IsLexeme cs (named (upper cs) q)
named_sound [] w q e = elim w [ ]
named_sound (c ∷ cs) w None e = a_name w (λ k f. let g = word_listed k _ _ f in absurd cc)
named_sound (c ∷ cs) w (Some k) e = a_word w (find_sound word_text WORDS _ k e)

pub word_sound : (c : ℕ) (cs : List ℕ) → is_start c ≡ true → Reads (c ∷ cs) (word_at (c ∷ cs))
unfolding word_at find_word
word_sound c cs h =
    let r = parts_at cs in
    let p = parts_sound cs in
    let e = parts_at_part c cs (start_part c h) in
    let front = c ∷ r.0 in
    let split : c ∷ cs ≡ front ++ r.1 = ap (λ xs. c ∷ xs) p.1 in
    let found : Reads (front ++ r.1) (word_of (upper front) r.1) = by_literal front r.1 (word h p.0) (find word_text WORDS (upper front)) refl (literal_at (upper front) (find word_text WORDS (upper front)) r.1) (literal_sound front r.1 (find word_text WORDS (upper front)) refl) in
    subst (λ l. Reads l (word_at (c ∷ cs))) (sym split) (subst (λ (x : List ℕ × List ℕ). Reads (front ++ r.1) (word_of (upper x.0) x.1)) (sym e) found) where
      by_literal : (front rest : List ℕ) → IsWord front → (q : Option Mark) → find word_text WORDS (upper front) ≡ q → (l : Option (Kind × List ℕ)) → ReadsKind (front ++ rest) l → Reads (front ++ rest) (or_named (upper front) q rest l)
      by_literal front rest w q f None s = (front, named_sound front w q f, refl)
      by_literal front rest w q f (Some x) s = s

with_mark_sound : (front rest : List ℕ) → (q : Option Mark) → find sign_text SIGNS front ≡ q → length front ≢ 0 → ReadsAs (λ cs k. IsLexeme cs (mark k)) (front ++ rest) (with_rest rest q)
with_mark_sound front rest None e n = tt
with_mark_sound [] rest (Some k) e n = absurd (n refl)
with_mark_sound (c ∷ cs) rest (Some k) e n = (c ∷ cs, a_sign (find_sound sign_text SIGNS _ k e), refl)

pub sign_sound : (bytes : List ℕ) → ReadsAs (λ cs k. IsLexeme cs (mark k)) bytes (sign_at bytes)
unfolding sign_at find_sign
sign_sound [] = tt
sign_sound (c ∷ []) = with_mark_sound (c ∷ []) [] (find sign_text SIGNS (c ∷ [])) refl (λ e. absurd (omega arith))
sign_sound (c ∷ d ∷ cs) =
    or_sound (λ xs k. IsLexeme xs (mark k)) (c ∷ d ∷ cs) (with_rest cs (find sign_text SIGNS (c ∷ d ∷ []))) (with_rest (d ∷ cs) (find sign_text SIGNS (c ∷ [])))
    (with_mark_sound (c ∷ d ∷ []) cs (find sign_text SIGNS (c ∷ d ∷ [])) refl (λ e. absurd (omega arith))) (with_mark_sound (c ∷ []) (d ∷ cs) (find sign_text SIGNS (c ∷ [])) refl (λ e. absurd (omega arith)))

plain_sound : (bytes : List ℕ) → ReadsKind bytes (plain_at bytes)
unfolding plain_at
plain_sound bytes = by_number (number_at bytes) (number_sound bytes) where
  by_sign : (q : Option (Mark × List ℕ)) → ReadsAs (λ cs k. IsLexeme cs (mark k)) bytes q → ReadsKind bytes (marked q)
  by_sign None r = tt
  by_sign (Some (k, rest)) r = r

  by_number : (q : Option (ℕ × List ℕ)) → ReadsAs IsNumber bytes q → ReadsKind bytes (plain q (marked (sign_at bytes)))
  by_number None r = by_sign (sign_at bytes) (sign_sound bytes)
  by_number (Some (n, rest)) r = (r.0, a_number r.1, r.2)

pub scan_sound : (bytes : List ℕ) → ReadsKind bytes (scan bytes)
unfolding scan
scan_sound bytes = pick (ReadsKind bytes) (begins_word bytes) (Some (word_at bytes)) (plain_at bytes) (by_first bytes) (λ _. plain_sound bytes) where
  by_first : (bs : List ℕ) → begins_word bs ≡ true → Reads bs (word_at bs)
  by_first [] h = absurd cc
  by_first (c ∷ cs) h = word_sound c cs h
