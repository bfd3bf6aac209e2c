-- What the lexer finds at the front of a list of characters, part by part.
use Rattle.std.specs.Prelude.{ℕ, zero, suc, ◌+◌, ◌*◌, ◌^◌, List, [], ◌∷◌, Bool, true, false, ◌==◌, ◌&&◌, nat_lt, Option, Some, None, if◌then◌else◌}
use Rattle.std.specs.Str.{bytes_eq}
use Rattle.std.specs.Char.{to_ascii_uppercase}
use Rattle.fb_words.specs.declared.mark.TheConstants.{WORDS, SIGNS}
use Rattle.fb_words.specs.declared.mark.Mark.{Mark}
use Rattle.fb_words.specs.declared.elem_type.ElemType.{ElemType}
use Rattle.fb_words.specs.Writing.{sign_text, word_text, type_of}
use Rattle.fb_model.specs.Tokens.{Kind, name, number, typed, duration, mark}
use Rattle.fb_model.specs.Spelling.{is_layout, is_start, is_part, upper, digit_value, is_digit_in, is_integer, is_time_word}
use Rattle.fb_lex.specs.declared.span.Unit.{Unit}
use Rattle.fb_lex.specs.declared.span.Unit.TheVariants as units

abbrev pub or_else : {A : Type 0} → Option A → Option A → Option A
or_else (Some x) other = Some x
or_else None other = other

-- ---- numbers

abbrev pub digit_below : ℕ → ℕ → Option ℕ
digit_below base value = if nat_lt value base then Some value else None

abbrev pub digit_in : ℕ → ℕ → Option ℕ
digit_in base c = if is_digit_in base c then Some (digit_value c) else None

abbrev pub with_rest : {A : Type 0} → List ℕ → Option A → Option (A × List ℕ)
with_rest rest None = None
with_rest rest (Some x) = Some (x, rest)

abbrev pub first_digit : ℕ → List ℕ → Option (ℕ × List ℕ)
first_digit base [] = None
first_digit base (c ∷ cs) = with_rest cs (digit_in base c)

abbrev pub joined_digit : ℕ → ℕ → List ℕ → Option (ℕ × List ℕ)
joined_digit base c cs = if c == 95 then first_digit base cs else None

abbrev pub next_digit : ℕ → List ℕ → Option (ℕ × List ℕ)
next_digit base [] = None
next_digit base (c ∷ cs) = or_else (with_rest cs (digit_in base c)) (joined_digit base c cs)

-- the digits behind those whose value is v, and what is left
unfoldable pub digits_at : ℕ → ℕ → List ℕ → ℕ × List ℕ
digits_at base v [] = (v, [])
digits_at base v (c ∷ []) = if is_digit_in base c then (v * base + digit_value c, []) else (v, c ∷ [])
digits_at base v (c ∷ d ∷ cs) =
    if is_digit_in base c then digits_at base (v * base + digit_value c) (d ∷ cs)
    else if (c == 95) && is_digit_in base d then digits_at base (v * base + digit_value d) cs else (v, c ∷ d ∷ cs)

abbrev pub from_digit : ℕ → Option (ℕ × List ℕ) → Option (ℕ × List ℕ)
from_digit base None = None
from_digit base (Some p) = Some (digits_at base p.0 p.1)

abbrev pub whole_at : ℕ → List ℕ → Option (ℕ × List ℕ)
whole_at base bytes = from_digit base (first_digit base bytes)

abbrev pub behind_hash : List ℕ → Option (ℕ × List ℕ)
behind_hash [] = None
behind_hash (c ∷ cs) = if c == 35 then Some (16, cs) else None

abbrev pub named_base : ℕ → List ℕ → Option (ℕ × List ℕ)
named_base c cs = if c == 50 then Some (2, cs) else if c == 56 then Some (8, cs) else None

abbrev pub base_at : List ℕ → Option (ℕ × List ℕ)
base_at [] = None
base_at (c ∷ []) = None
base_at (c ∷ d ∷ cs) = if d == 35 then named_base c cs else if (c == 49) && (d == 54) then behind_hash cs else None

abbrev pub in_base : Option (ℕ × List ℕ) → Option (ℕ × List ℕ)
in_base None = None
in_base (Some p) = whole_at p.0 p.1

unfoldable pub number_at : List ℕ → Option (ℕ × List ℕ)
number_at bytes = or_else (in_base (base_at bytes)) (whole_at 10 bytes)

-- ---- the parts of a TIME

abbrev pub rank_of : Unit → ℕ
rank_of units.Days = 0
rank_of units.Hours = 1
rank_of units.Minutes = 2
rank_of units.Seconds = 3
rank_of units.Milliseconds = 4

abbrev pub size_of : Unit → ℕ
size_of units.Days = 86400000
size_of units.Hours = 3600000
size_of units.Minutes = 60000
size_of units.Seconds = 1000
size_of units.Milliseconds = 1

abbrev pub behind_m : List ℕ → Unit × List ℕ
behind_m [] = (units.Minutes, [])
behind_m (c ∷ cs) = if to_ascii_uppercase c == 83 then (units.Milliseconds, cs) else (units.Minutes, c ∷ cs)

abbrev pub unit_of : ℕ → List ℕ → Option (Unit × List ℕ)
unit_of c cs =
    if c == 68 then Some (units.Days, cs)
    else if c == 72 then Some (units.Hours, cs)
    else if c == 77 then Some (behind_m cs)
    else if c == 83 then Some (units.Seconds, cs)
    else None

unfoldable pub unit_at : List ℕ → Option (Unit × List ℕ)
unit_at [] = None
unit_at (c ∷ cs) = unit_of (to_ascii_uppercase c) cs

abbrev pub counted : ℕ → Option (Unit × List ℕ) → Option (Unit × ℕ × List ℕ)
counted n None = None
counted n (Some p) = Some (p.0, n * size_of p.0, p.1)

abbrev pub with_unit : Option (ℕ × List ℕ) → Option (Unit × ℕ × List ℕ)
with_unit None = None
with_unit (Some p) = counted p.0 (unit_at p.1)

-- a whole number and its unit: the unit, the milliseconds and what is left
unfoldable pub amount_at : List ℕ → Option (Unit × ℕ × List ℕ)
amount_at bytes = with_unit (whole_at 10 bytes)

abbrev pub behind_joint : List ℕ → List ℕ
behind_joint [] = []
behind_joint (c ∷ cs) = if c == 95 then cs else c ∷ cs

abbrev pub and_more : ℕ → List ℕ → Option (ℕ × List ℕ) → Option (ℕ × List ℕ)
and_more n rest None = Some (n, rest)
and_more n rest (Some p) = Some (n + p.0, p.1)

abbrev pub from_amount : (ℕ → List ℕ → Option (ℕ × List ℕ)) → ℕ → Option (Unit × ℕ × List ℕ) → Option (ℕ × List ℕ)
from_amount others least None = None
from_amount others least (Some p) = if nat_lt (rank_of p.0) least then None else and_more p.1 p.2 (others (rank_of p.0 + 1) (behind_joint p.2))

-- parts whose units stand in order, none before the least rank; the first number bounds their count
unfoldable pub span_at : ℕ → ℕ → List ℕ → Option (ℕ × List ℕ)
span_at zero least bytes = None
span_at (suc m) least bytes = from_amount (span_at m) least (amount_at bytes)

-- ---- literals

abbrev pub minus_at : List ℕ → Bool × List ℕ
minus_at [] = (false, [])
minus_at (c ∷ cs) = if c == 45 then (true, cs) else (false, c ∷ cs)

abbrev pub integer_of : Option ElemType → Option ElemType
integer_of None = None
integer_of (Some t) = if is_integer t then Some t else None

abbrev pub integer_type : Option Mark → Option ElemType
integer_type None = None
integer_type (Some k) = integer_of (type_of k)

abbrev pub typed_by : Option ElemType → Bool → Option (ℕ × List ℕ) → Option (Kind × List ℕ)
typed_by None negative q = None
typed_by (Some t) negative None = None
typed_by (Some t) negative (Some p) = Some (typed t negative p.0, p.1)

abbrev pub lasting : Bool → Option (ℕ × List ℕ) → Option (Kind × List ℕ)
lasting negative None = None
lasting negative (Some p) = Some (duration negative p.0, p.1)

abbrev pub literal_of : List ℕ → Option Mark → Bool × List ℕ → Option (Kind × List ℕ)
literal_of t q p = if is_time_word t then lasting p.0 (span_at 5 0 p.1) else typed_by (integer_type q) p.0 (number_at p.1)

-- what continues a word to a literal
unfoldable pub literal_at : List ℕ → Option Mark → List ℕ → Option (Kind × List ℕ)
literal_at t q [] = None
literal_at t q (c ∷ cs) = if c == 35 then literal_of t q (minus_at cs) else None

-- ---- words and signs

-- the first mark that is written so
abbrev pub find : (Mark → List ℕ) → List Mark → List ℕ → Option Mark
find text [] t = None
find text (k ∷ ks) t = if bytes_eq (text k) t then Some k else find text ks t

unfoldable pub find_word : List ℕ → Option Mark
find_word t = find word_text WORDS t

unfoldable pub find_sign : List ℕ → Option Mark
find_sign t = find sign_text SIGNS t

abbrev pub named : List ℕ → Option Mark → Kind
named t None = name t
named t (Some k) = mark k

-- letters, digits and `_`, and what is left
abbrev pub parts_at : List ℕ → List ℕ × List ℕ
parts_at [] = ([], [])
parts_at (c ∷ cs) = if is_part c then (let r = parts_at cs in (c ∷ r.0, r.1)) else ([], c ∷ cs)

abbrev pub or_named : List ℕ → Option Mark → List ℕ → Option (Kind × List ℕ) → Kind × List ℕ
or_named t q rest None = (named t q, rest)
or_named t q rest (Some p) = p

abbrev pub word_of : List ℕ → List ℕ → Kind × List ℕ
word_of t rest = or_named t (find_word t) rest (literal_at t (find_word t) rest)

unfoldable pub word_at : List ℕ → Kind × List ℕ
word_at bytes = let p = parts_at bytes in word_of (upper p.0) p.1

abbrev pub one_sign : List ℕ → Option (Mark × List ℕ)
one_sign [] = None
one_sign (c ∷ cs) = with_rest cs (find_sign (c ∷ []))

abbrev pub two_signs : List ℕ → Option (Mark × List ℕ)
two_signs [] = None
two_signs (c ∷ []) = None
two_signs (c ∷ d ∷ cs) = with_rest cs (find_sign (c ∷ d ∷ []))

-- the longest sign
unfoldable pub sign_at : List ℕ → Option (Mark × List ℕ)
sign_at bytes = or_else (two_signs bytes) (one_sign bytes)

-- ---- tokens

abbrev pub marked : Option (Mark × List ℕ) → Option (Kind × List ℕ)
marked None = None
marked (Some p) = Some (mark p.0, p.1)

abbrev pub plain : Option (ℕ × List ℕ) → Option (Kind × List ℕ) → Option (Kind × List ℕ)
plain None other = other
plain (Some p) other = Some (number p.0, p.1)

unfoldable pub plain_at : List ℕ → Option (Kind × List ℕ)
plain_at bytes = plain (number_at bytes) (marked (sign_at bytes))

abbrev pub begins_word : List ℕ → Bool
begins_word [] = false
begins_word (c ∷ cs) = is_start c

-- the token at the front, and what is left
unfoldable pub scan : List ℕ → Option (Kind × List ℕ)
scan bytes = if begins_word bytes then Some (word_at bytes) else plain_at bytes

-- whether a token is within its limits
abbrev pub is_fit : Kind → Bool
is_fit (name t) = true
is_fit (number n) = nat_lt n (2 ^ 64)
is_fit (typed t negative n) = nat_lt n (2 ^ 64)
is_fit (duration negative n) = nat_lt n (2 ^ 63)
is_fit (mark k) = true

-- ---- layout and comments

-- whether a layout character stands at the front
abbrev pub begins_layout : List ℕ → Bool
begins_layout [] = false
begins_layout (c ∷ cs) = is_layout c

-- what is left behind the end of a comment
unfoldable pub closes_at : List ℕ → Option (List ℕ)
closes_at [] = None
closes_at (c ∷ []) = None
closes_at (c ∷ d ∷ cs) = if (c == 42) && (d == 41) then Some cs else closes_at (d ∷ cs)

pub data Between : Type 0 where
  past : List ℕ → Between
  unclosed : Between
  nothing : Between

abbrev pub closed_or : Option (List ℕ) → Between
closed_or None = unclosed
closed_or (Some rest) = past rest

abbrev pub comment_at : List ℕ → Between
comment_at [] = nothing
comment_at (c ∷ []) = nothing
comment_at (c ∷ d ∷ cs) = if (c == 40) && (d == 42) then closed_or (closes_at cs) else nothing

-- what a layout character or a comment leaves
unfoldable pub gap_at : List ℕ → Between
gap_at [] = nothing
gap_at (c ∷ cs) = if is_layout c then past cs else comment_at (c ∷ cs)
