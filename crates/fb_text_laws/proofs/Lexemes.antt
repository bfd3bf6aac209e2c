-- No token has a space in it, and each sign and each reserved word is the token that it spells.
use Rattle.std.proofs.Common.{◌≡◌, ◌≢◌, ℕ, Bool, true, false, cond, List, [], ◌∷◌, ◌++◌, refl, sym, ap, subst, ◌∙◌, arith, codes}
use Rattle.std.specs.Prelude.{◌||◌, ◌==◌}
use Rattle.std.specs.Char.{to_ascii_uppercase}
use Rattle.std.specs.Str.{bytes_eq}
use Rattle.std.proofs.lemmas.Slice.Eq.{bytes_eq-Decides}
use Rattle.fb_words.specs.declared.mark.Mark.{Mark}
use Rattle.fb_words.specs.declared.mark.Mark.TheVariants as m
use Rattle.fb_words.specs.Writing.{sign_text, word_text}
use Rattle.fb_model.specs.Tokens.{Kind, name, number, mark}
use Rattle.fb_model.specs.Spelling.{is_start, is_part, is_digit_in, upper, IsParts, no_part, part, IsWord, word, IsDigits, no_more, digit, joined, IsWhole, whole, IsBase, binary, octal, hexadecimal, IsNumber, decimal, based, IsSign, plus, minus, IsUnit, days, hours, minutes, seconds, milliseconds, IsJoint, none, joint, IsAmount, IsSpan, last_part, more_parts, is_time_word, IsLexeme, a_word, a_name, a_number, a_typed, a_duration, a_sign, Fits}

-- ---- no space

-- no space is among these characters
abbrev pub NoSpace : List ℕ → Type 0
NoSpace [] = Unit {0}
NoSpace (c ∷ cs) = (c ≡ 32 → ⊥) × NoSpace cs

both : (xs ys : List ℕ) → NoSpace xs → NoSpace ys → NoSpace (xs ++ ys)
both [] ys p q = q
both (x ∷ xs) ys p q = (p.0, both xs ys p.1 q)

pub second : (xs ys : List ℕ) → NoSpace (xs ++ ys) → NoSpace ys
second [] ys p = p
second (x ∷ xs) ys p = second xs ys p.1

-- what a test says of no space
told : (test : ℕ → Bool) → test 32 ≡ false → (c : ℕ) → test c ≡ true → c ≡ 32 → ⊥
told test apart c holds e = let f : test 32 ≡ true = subst (λ d. test d ≡ true) e holds in absurd cc

parts : {cs : List ℕ} → IsParts cs → NoSpace cs
parts no_part = tt
parts (part {c = c} h t) = (told is_part refl c h, parts t)

words : {cs : List ℕ} → IsWord cs → NoSpace cs
words (word {c = c} h t) = (told is_start refl c h, parts t)

digits : {base v n : ℕ} {cs : List ℕ} → IsDigits base v cs n → NoSpace cs
digits no_more = tt
digits {base = base} (digit {c = c} h t) = (told (is_digit_in base) refl c h, digits t)
digits {base = base} (joined {c = c} h t) = ((λ e. absurd (omega (arith, e))), (told (is_digit_in base) refl c h, digits t))

wholes : {base n : ℕ} {cs : List ℕ} → IsWhole base cs n → NoSpace cs
wholes {base = base} (whole {c = c} h t) = (told (is_digit_in base) refl c h, digits t)

-- whether none of these characters is a space
abbrev is_plain : List ℕ → Bool
is_plain [] = true
is_plain (c ∷ cs) = cond (c == 32) false (is_plain cs)

plain : (cs : List ℕ) → is_plain cs ≡ true → NoSpace cs
plain [] h = tt
plain (c ∷ cs) h = by (c == 32) refl h (λ h. plain cs h) where
  by : (b : Bool) → (c == 32) ≡ b → cond b false (is_plain cs) ≡ true → (is_plain cs ≡ true → NoSpace cs) → NoSpace (c ∷ cs)
  by true e h again = absurd cc
  by false e h again = ((λ f. let g : (32 == 32) ≡ false = subst (λ d. (d == 32) ≡ false) f e in absurd cc), again h)

-- upper case leaves a space as it is
lower : (cs : List ℕ) → NoSpace (upper cs) → NoSpace cs
lower [] p = tt
lower (c ∷ cs) p = ((λ e. p.0 (ap to_ascii_uppercase e)), lower cs p.1)

word_plain : (k : Mark) → is_plain (word_text k) ≡ true
word_plain k = by k where
  by : (k : Mark) → is_plain (word_text k) ≡ true
  by m.Assign = refl
  by other = refl

sign_plain : (k : Mark) → is_plain (sign_text k) ≡ true
sign_plain k = by k where
  by : (k : Mark) → is_plain (sign_text k) ≡ true
  by m.Assign = refl
  by other = refl

bases : {base : ℕ} {front : List ℕ} → IsBase base front → NoSpace front
bases binary = plain (codes "2#") refl
bases octal = plain (codes "8#") refl
bases hexadecimal = plain (codes "16#") refl

numbers : {cs : List ℕ} {n : ℕ} → IsNumber cs n → NoSpace cs
numbers (decimal w) = wholes w
numbers (based {front = front} {cs = cs} b w) = both front cs (bases b) (wholes w)

signs : {cs : List ℕ} {b : Bool} → IsSign cs b → NoSpace cs
signs plus = tt
signs minus = plain (codes "-") refl

units : {rank n : ℕ} {cs : List ℕ} → IsUnit rank cs n → NoSpace cs
units days = plain (codes "D") refl
units hours = plain (codes "H") refl
units minutes = plain (codes "M") refl
units seconds = plain (codes "S") refl
units milliseconds = plain (codes "MS") refl

joints : {cs : List ℕ} → IsJoint cs → NoSpace cs
joints none = tt
joints joint = plain (codes "_") refl

amounts : {rank n : ℕ} {cs : List ℕ} → IsAmount rank cs n → NoSpace cs
amounts a = subst (λ l. NoSpace l) (sym a.is) (both a.digits a.unit (wholes a.number) (lower a.unit (units a.unit_is)))

spans : {least n : ℕ} {cs : List ℕ} → IsSpan least cs n → NoSpace cs
spans (last_part le a) = amounts a
spans (more_parts {cs = cs} {joint = j} {ds = ds} le a h t) = both (cs ++ j) ds (both cs j (amounts a) (joints h)) (spans t)

time_words : (cs : List ℕ) → is_time_word cs ≡ true → NoSpace cs
time_words cs h = by (bytes_eq cs (codes "T")) refl h where
  by : (b : Bool) → bytes_eq cs (codes "T") ≡ b → (b || bytes_eq cs (codes "TIME")) ≡ true → NoSpace cs
  by true e h = subst (λ l. NoSpace l) (sym ((bytes_eq-Decides cs (codes "T")).0 e)) (plain (codes "T") refl)
  by false e h = subst (λ l. NoSpace l) (sym ((bytes_eq-Decides cs (codes "TIME")).0 h)) (plain (codes "TIME") refl)

-- No token has a space in it.
pub lexemes : {cs : List ℕ} {k : Kind} → IsLexeme cs k → NoSpace cs
lexemes (a_word w e) = words w
lexemes (a_name w e) = words w
lexemes (a_number n) = numbers n
lexemes (a_typed k cs sign ds e t i s n) = both cs (35 ∷ (sign ++ ds)) (lower cs (subst (λ l. NoSpace l) e (plain (word_text k) (word_plain k)))) ((λ e. absurd (omega (arith, e))), both sign ds (signs s) (numbers n))
lexemes (a_duration cs sign ds w s d) = both cs (35 ∷ (sign ++ ds)) (lower cs (time_words (upper cs) w)) ((λ e. absurd (omega (arith, e))), both sign ds (signs s) (spans d))
lexemes (a_sign {k = k} e) = subst (λ l. NoSpace l) e (plain (sign_text k) (sign_plain k))

-- ---- what spells a kind of token

-- characters without a space that stand before one stand before that space
pub parted : (p w m rest : List ℕ) → NoSpace w → p ++ 32 ∷ m ≡ w ++ rest → (more : List ℕ) × (p ≡ w ++ more)
parted p [] m rest n e = (p, refl)
parted [] (c ∷ w) m rest n e = let f : 32 ≡ c = cc in absurd (n.0 (sym f))
parted (d ∷ p) (c ∷ w) m rest n e =
    let head : d ≡ c = cc in
    let tail : p ++ 32 ∷ m ≡ w ++ rest = cc in
    let r = parted p w m rest n.1 tail in
    let all : p ≡ w ++ r.0 = r.1 in
    (r.0, cc)

-- the characters that open a comment
abbrev pub opening : List ℕ
opening = 40 ∷ 42 ∷ []

pub opening_plain : NoSpace opening
opening_plain = plain opening refl

-- whether characters begin as a comment does
abbrev is_comment : List ℕ → Bool
is_comment [] = false
is_comment (c ∷ []) = false
is_comment (c ∷ d ∷ cs) = cond (c == 40) (d == 42) false

-- Some characters are a token of this kind, where a space stands behind them.
pub record Spelled (k : Kind) : Type 0 where
  pub text : List ℕ
  pub lexeme : IsLexeme text k
  pub fits : Fits k
  pub no_comment : (more : List ℕ) → text ≡ opening ++ more → ⊥

no_opening : (text : List ℕ) → is_comment text ≡ false → (more : List ℕ) → text ≡ opening ++ more → ⊥
no_opening text h more e = let f : is_comment (opening ++ more) ≡ false = subst (λ l. is_comment l ≡ false) e h in absurd cc

-- whether characters are letters, digits and `_`
abbrev are_parts : List ℕ → Bool
are_parts [] = true
are_parts (c ∷ cs) = cond (is_part c) (are_parts cs) false

parts_of : (cs : List ℕ) → are_parts cs ≡ true → IsParts cs
parts_of [] h = no_part
parts_of (c ∷ cs) h = by (is_part c) refl h (λ h. parts_of cs h) where
  by : (b : Bool) → is_part c ≡ b → cond b (are_parts cs) false ≡ true → (are_parts cs ≡ true → IsParts cs) → IsParts (c ∷ cs)
  by true e h again = part e (again h)
  by false e h again = absurd cc

abbrev is_word : List ℕ → Bool
is_word [] = false
is_word (c ∷ cs) = cond (is_start c) (are_parts cs) false

word_of : (cs : List ℕ) → is_word cs ≡ true → IsWord cs
word_of [] h = absurd cc
word_of (c ∷ cs) h = by (is_start c) refl h where
  by : (b : Bool) → is_start c ≡ b → cond b (are_parts cs) false ≡ true → IsWord (c ∷ cs)
  by true e h = word e (parts_of cs h)
  by false e h = absurd cc

sign_spelled : (k : Mark) (c : ℕ) (cs : List ℕ) → sign_text k ≡ c ∷ cs → is_comment (c ∷ cs) ≡ false → Spelled (mark k)
sign_spelled k c cs e h = record { text = c ∷ cs; lexeme = a_sign e; fits = tt; no_comment = no_opening (c ∷ cs) h }

word_spelled : (k : Mark) → is_word (word_text k) ≡ true → word_text k ≡ upper (word_text k) → is_comment (word_text k) ≡ false → Spelled (mark k)
word_spelled k h e f = record { text = word_text k; lexeme = a_word (word_of (word_text k) h) e; fits = tt; no_comment = no_opening (word_text k) f }

pub mark_spelled : (k : Mark) → Spelled (mark k)
mark_spelled m.Assign = sign_spelled m.Assign _ _ refl refl
mark_spelled m.Arrow = sign_spelled m.Arrow _ _ refl refl
mark_spelled m.DotDot = sign_spelled m.DotDot _ _ refl refl
mark_spelled m.LessEqual = sign_spelled m.LessEqual _ _ refl refl
mark_spelled m.GreaterEqual = sign_spelled m.GreaterEqual _ _ refl refl
mark_spelled m.NotEqual = sign_spelled m.NotEqual _ _ refl refl
mark_spelled m.LParen = sign_spelled m.LParen _ _ refl refl
mark_spelled m.RParen = sign_spelled m.RParen _ _ refl refl
mark_spelled m.LBracket = sign_spelled m.LBracket _ _ refl refl
mark_spelled m.RBracket = sign_spelled m.RBracket _ _ refl refl
mark_spelled m.Comma = sign_spelled m.Comma _ _ refl refl
mark_spelled m.Semicolon = sign_spelled m.Semicolon _ _ refl refl
mark_spelled m.Colon = sign_spelled m.Colon _ _ refl refl
mark_spelled m.Dot = sign_spelled m.Dot _ _ refl refl
mark_spelled m.Equal = sign_spelled m.Equal _ _ refl refl
mark_spelled m.Less = sign_spelled m.Less _ _ refl refl
mark_spelled m.Greater = sign_spelled m.Greater _ _ refl refl
mark_spelled m.Plus = sign_spelled m.Plus _ _ refl refl
mark_spelled m.Minus = sign_spelled m.Minus _ _ refl refl
mark_spelled m.Star = sign_spelled m.Star _ _ refl refl
mark_spelled m.Slash = sign_spelled m.Slash _ _ refl refl
mark_spelled m.Ampersand = sign_spelled m.Ampersand _ _ refl refl
mark_spelled k = word_spelled k refl refl refl

pub number_spelled : Spelled (number 0)
number_spelled = record { text = codes "0"; lexeme = a_number (decimal (whole refl no_more)); fits = omega arith; no_comment = no_opening (codes "0") refl }

-- a word that is not reserved
module _ (cs : List ℕ) where
  name_spelled : is_word cs ≡ true → upper cs ≡ cs → ((k : Mark) → bytes_eq (word_text k) cs ≡ false) → is_comment cs ≡ false → Spelled (name cs)
  name_spelled h e free f =
      let apart : (k : Mark) → word_text k ≢ upper cs = λ k same. let yes = (bytes_eq-Decides (word_text k) cs).1 (same ∙ e) in let no_word = free k in absurd cc in
      subst (λ l. Spelled (name l)) e (record { text = cs; lexeme = a_name (word_of cs h) apart; fits = tt; no_comment = no_opening cs f })

x_free : (k : Mark) → bytes_eq (word_text k) (codes "X") ≡ false
x_free m.Assign = refl
x_free k = refl

event_free : (k : Mark) → bytes_eq (word_text k) (codes "EVENT") ≡ false
event_free m.Assign = refl
event_free k = refl

in_free : (k : Mark) → bytes_eq (word_text k) (codes "IN") ≡ false
in_free m.Assign = refl
in_free k = refl

st_free : (k : Mark) → bytes_eq (word_text k) (codes "ST") ≡ false
st_free m.Assign = refl
st_free k = refl

pub x_spelled : Spelled (name (codes "X"))
x_spelled = name_spelled (codes "X") refl refl x_free refl

pub event_spelled : Spelled (name (codes "EVENT"))
event_spelled = name_spelled (codes "EVENT") refl refl event_free refl

pub in_spelled : Spelled (name (codes "IN"))
in_spelled = name_spelled (codes "IN") refl refl in_free refl

pub st_spelled : Spelled (name (codes "ST"))
st_spelled = name_spelled (codes "ST") refl refl st_free refl
