-- Which characters spell which tokens: IEC 61131-3 edition 3, 6.1 and 6.3, this project's profile.
use Rattle.std.specs.Prelude.{◌≡◌, ◌≢◌, ℕ, ◌+◌, ◌-◌, ◌*◌, ◌<◌, ◌≤◌, ◌^◌, List, [], ◌∷◌, ◌++◌, length, map, Bool, true, false, ◌==◌, ◌||◌, ◌&&◌, nat_le, nat_lt, Some, codes, if◌then◌else◌}
use Rattle.std.specs.List.{AllByRecursion}
use Rattle.std.specs.Char.{to_ascii_uppercase}
use Rattle.std.specs.Str.{bytes_eq}
use Rattle.fb_words.specs.declared.mark.Mark.{Mark}
use Rattle.fb_words.specs.declared.elem_type.ElemType.{ElemType}
use Rattle.fb_words.specs.declared.elem_type.ElemType.TheVariants as types
use Rattle.fb_words.specs.Writing.{sign_text, word_text, type_of}
use Rattle.fb_model.specs.Tokens.{Kind, name, number, typed, duration, mark, Token, token}

-- ---- characters

abbrev pub is_layout : ℕ → Bool
is_layout c = c == 32 || c == 9 || c == 13 || c == 10

abbrev pub is_digit : ℕ → Bool
is_digit c = nat_le 48 c && nat_le c 57

-- a letter or `_`
abbrev pub is_start : ℕ → Bool
is_start c = (nat_le 65 c && nat_le c 90) || (nat_le 97 c && nat_le c 122) || c == 95

abbrev pub is_part : ℕ → Bool
is_part c = is_start c || is_digit c

abbrev pub upper : List ℕ → List ℕ
upper cs = map to_ascii_uppercase cs

-- what a digit counts, letters from A on counting from ten
abbrev pub digit_value : ℕ → ℕ
digit_value c = if is_digit c then c - 48 else to_ascii_uppercase c - 55

abbrev pub is_digit_in : ℕ → ℕ → Bool
is_digit_in base c = (is_digit c || (nat_le 65 (to_ascii_uppercase c) && nat_le (to_ascii_uppercase c) 70)) && nat_lt (digit_value c) base

-- ---- words and numbers

-- letters, digits and `_`
pub data IsParts : List ℕ → Type 0 where
  no_part : IsParts []
  part : {c : ℕ} {cs : List ℕ} → is_part c ≡ true → IsParts cs → IsParts (c ∷ cs)

pub data IsWord : List ℕ → Type 0 where
  word : {c : ℕ} {cs : List ℕ} → is_start c ≡ true → IsParts cs → IsWord (c ∷ cs)

abbrev pub AreWords : List (List ℕ) → Type 0
AreWords names = AllByRecursion IsWord names

-- digits after those whose value is v, with one `_` between digits where one stands
pub data IsDigits (base : ℕ) : ℕ → List ℕ → ℕ → Type 0 where
  no_more : {v : ℕ} → IsDigits base v [] v
  digit : {v c n : ℕ} {cs : List ℕ} → is_digit_in base c ≡ true → IsDigits base (v * base + digit_value c) cs n → IsDigits base v (c ∷ cs) n
  joined : {v c n : ℕ} {cs : List ℕ} → is_digit_in base c ≡ true → IsDigits base (v * base + digit_value c) cs n → IsDigits base v (95 ∷ c ∷ cs) n

-- a whole number in a base, of one digit at least
pub data IsWhole (base : ℕ) : List ℕ → ℕ → Type 0 where
  whole : {c n : ℕ} {cs : List ℕ} → is_digit_in base c ≡ true → IsDigits base (digit_value c) cs n → IsWhole base (c ∷ cs) n

-- a base that is written before its digits
pub data IsBase : ℕ → List ℕ → Type 0 where
  binary : IsBase 2 (codes "2#")
  octal : IsBase 8 (codes "8#")
  hexadecimal : IsBase 16 (codes "16#")

pub data IsNumber : List ℕ → ℕ → Type 0 where
  decimal : {n : ℕ} {cs : List ℕ} → IsWhole 10 cs n → IsNumber cs n
  based : {base n : ℕ} {front cs : List ℕ} → IsBase base front → IsWhole base cs n → IsNumber (front ++ cs) n

-- ---- literals with `#`

pub data IsSign : List ℕ → Bool → Type 0 where
  plus : IsSign [] false
  minus : IsSign (codes "-") true

abbrev pub is_integer : ElemType → Bool
is_integer types.Bool = false
is_integer types.Time = false
is_integer t = true

-- the units of a TIME from the largest on, each with its length in milliseconds
pub data IsUnit : ℕ → List ℕ → ℕ → Type 0 where
  days : IsUnit 0 (codes "D") 86400000
  hours : IsUnit 1 (codes "H") 3600000
  minutes : IsUnit 2 (codes "M") 60000
  seconds : IsUnit 3 (codes "S") 1000
  milliseconds : IsUnit 4 (codes "MS") 1

-- nothing or one `_` between two parts
pub data IsJoint : List ℕ → Type 0 where
  none : IsJoint []
  joint : IsJoint (codes "_")

-- a whole number and its unit
pub record IsAmount (rank : ℕ) (cs : List ℕ) (n : ℕ) : Type 0 where
  pub count : ℕ
  pub size : ℕ
  pub digits : List ℕ
  pub unit : List ℕ
  pub is : cs ≡ digits ++ unit
  pub number : IsWhole 10 digits count
  pub unit_is : IsUnit rank (upper unit) size
  pub value : n ≡ count * size

-- parts whose units stand in order, none before this rank
pub data IsSpan : ℕ → List ℕ → ℕ → Type 0 where
  last_part : {least rank n : ℕ} {cs : List ℕ} → least ≤ rank → IsAmount rank cs n → IsSpan least cs n
  more_parts : {least rank n m : ℕ} {cs joint ds : List ℕ} → least ≤ rank → IsAmount rank cs n → IsJoint joint → IsSpan (rank + 1) ds m → IsSpan least (cs ++ joint ++ ds) (n + m)

abbrev pub is_time_word : List ℕ → Bool
is_time_word cs = bytes_eq cs (codes "T") || bytes_eq cs (codes "TIME")

-- ---- lexemes

-- The characters of a token. A number may be too big here.
pub data IsLexeme : List ℕ → Kind → Type 0 where
  a_word : {cs : List ℕ} {k : Mark} → IsWord cs → word_text k ≡ upper cs → IsLexeme cs (mark k)
  a_name : {cs : List ℕ} → IsWord cs → ((k : Mark) → word_text k ≢ upper cs) → IsLexeme cs (name (upper cs))
  a_number : {n : ℕ} {cs : List ℕ} → IsNumber cs n → IsLexeme cs (number n)
  a_typed : (k : Mark) {t : ElemType} {negative : Bool} {n : ℕ} (cs sign ds : List ℕ)
      → word_text k ≡ upper cs → type_of k ≡ Some t → is_integer t ≡ true → IsSign sign negative → IsNumber ds n → IsLexeme (cs ++ 35 ∷ (sign ++ ds)) (typed t negative n)
  a_duration : {negative : Bool} {n : ℕ} (cs sign ds : List ℕ) → is_time_word (upper cs) ≡ true → IsSign sign negative → IsSpan 0 ds n → IsLexeme (cs ++ 35 ∷ (sign ++ ds)) (duration negative n)
  a_sign : {c : ℕ} {cs : List ℕ} {k : Mark} → sign_text k ≡ c ∷ cs → IsLexeme (c ∷ cs) (mark k)

-- No more of the characters make a token.
abbrev pub IsLongest : List ℕ → List ℕ → Type 0
IsLongest lexeme rest = (c : ℕ) (more after : List ℕ) (k : Kind) → rest ≡ (c ∷ more) ++ after → IsLexeme (lexeme ++ c ∷ more) k → ⊥

-- numbers below 2 ^ 64, and at most 2 ^ 63 - 1 milliseconds
abbrev pub Fits : Kind → Type 0
Fits (name text) = Unit {0}
Fits (number n) = n < 2 ^ 64
Fits (typed t negative n) = n < 2 ^ 64
Fits (duration negative n) = n < 2 ^ 63
Fits (mark k) = Unit {0}

-- ---- layout and comments

-- what is left behind the `*)` that comes first
pub data Closes : List ℕ → List ℕ → Type 0 where
  closed : {rest : List ℕ} → Closes (42 ∷ 41 ∷ rest) rest
  inside : {c : ℕ} {cs rest : List ℕ} → ((ds : List ℕ) → c ∷ cs ≢ 42 ∷ 41 ∷ ds) → Closes cs rest → Closes (c ∷ cs) rest

-- a layout character or a comment
pub data IsGap : List ℕ → List ℕ → Type 0 where
  layout : {c : ℕ} {rest : List ℕ} → is_layout c ≡ true → IsGap (c ∷ rest) rest
  comment : {cs rest : List ℕ} → Closes cs rest → IsGap (40 ∷ 42 ∷ cs) rest

abbrev pub OpensNone : List ℕ → Type 0
OpensNone bytes = (cs : List ℕ) → bytes ≢ 40 ∷ 42 ∷ cs

-- ---- whole texts

-- the longest token stands at the front
pub record Stands (bytes lexeme rest : List ℕ) (k : Kind) : Type 0 where
  pub is : bytes ≡ lexeme ++ rest
  pub lexeme_is : IsLexeme lexeme k
  pub longest : IsLongest lexeme rest
  pub opens_none : OpensNone bytes

-- The characters from a place on, and their tokens. Layout and comments separate tokens, and mean nothing else.
pub data Spells : ℕ → List ℕ → List Token → Type 0 where
  end : {at : ℕ} → Spells at [] []
  gap : {at : ℕ} {bytes rest : List ℕ} {ts : List Token} → IsGap bytes rest → Spells (at + (length bytes - length rest)) rest ts → Spells at bytes ts
  next : {at : ℕ} {lexeme rest bytes : List ℕ} {k : Kind} {ts : List Token}
      → Stands bytes lexeme rest k → Fits k → Spells (at + length lexeme) rest ts → Spells at bytes (token k at (at + length lexeme) ∷ ts)

-- From a place, whole tokens and gaps lead to a later place.
pub data Leads : ℕ → List ℕ → ℕ → List ℕ → Type 0 where
  here : {at : ℕ} {bytes : List ℕ} → Leads at bytes at bytes
  over_gap : {at to : ℕ} {bytes rest left : List ℕ} → IsGap bytes rest → Leads (at + (length bytes - length rest)) rest to left → Leads at bytes to left
  over_token : {at to : ℕ} {lexeme rest bytes left : List ℕ} {k : Kind} → Stands bytes lexeme rest k → Fits k → Leads (at + length lexeme) rest to left → Leads at bytes to left

-- no gap and no token stands here, an unclosed comment perhaps
pub record IsBad (bytes : List ℕ) : Type 0 where
  pub some : bytes ≢ []
  pub no_gap : (rest : List ℕ) → IsGap bytes rest → ⊥
  pub no_token : (lexeme rest : List ℕ) (k : Kind) → Stands bytes lexeme rest k → ⊥

-- the token that stands here is a number beyond its limit
pub record IsBig (bytes : List ℕ) : Type 0 where
  pub lexeme : List ℕ
  pub rest : List ℕ
  pub kind : Kind
  pub stands : Stands bytes lexeme rest kind
  pub beyond : Fits kind → ⊥

-- what is wrong stands first at this place of the text
abbrev pub FirstAt : (List ℕ → Type 0) → List ℕ → ℕ → Type 0
FirstAt P text at = (left : List ℕ) × Leads 0 text at left × P left

-- the text of an application has at most so many bytes
abbrev pub text_limit : ℕ
text_limit = 1048576
