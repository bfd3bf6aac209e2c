-- Reading tokens from left to right: what stands in front, and what is left.
use Rattle.std.specs.Prelude.{ℕ, zero, suc, List, [], ◌∷◌, length, Bool, true, false, Option, None, Some, Result, Ok, Err, if◌then◌else◌}
use denote.Enum.Bare.{sameb}
use Rattle.fb_words.specs.contracts.mark.Mark.{the_type}
use Rattle.fb_words.specs.declared.mark.Mark.{Mark}
use Rattle.fb_words.specs.declared.elem_type.ElemType.{ElemType}
use Rattle.fb_words.specs.Writing.{type_of}
use Rattle.fb_model.specs.Tokens.{Token, token, name, mark}
use Rattle.fb_model.specs.Productions.{Word}

-- why reading stops, and how many tokens are left then
pub data Wrong : Type 0 where
  syntax : (left : ℕ) → Wrong
  too_deep : (left : ℕ) → Wrong

-- reading stops before these tokens
abbrev pub stuck : {A : Type 0} → List Token → Result A Wrong
stuck ts = Err (syntax (length ts))

abbrev pub Answer : Type 0 → Type 0
Answer A = Result (A × List Token) Wrong

abbrev pub Read : Type 0 → Type 0
Read A = List Token → Answer A

infixl 10 ◌>>=◌
abbrev pub ◌>>=◌ : {A B : Type 0} → Result A Wrong → (A → Result B Wrong) → Result B Wrong
(Ok x) >>= f = f x
(Err e) >>= f = Err e

-- ---- one token

abbrev pub is : Mark → Mark → Bool
is a b = sameb the_type a b

-- whether the next token is this mark
abbrev pub next_is : Mark → List Token → Bool
next_is k [] = false
next_is k (token (mark l) s e ∷ ts) = is l k
next_is k (token other s e ∷ ts) = false

abbrev pub after : List Token → List Token
after [] = []
after (t ∷ ts) = ts

abbrev pub expect : Mark → List Token → Result (List Token) Wrong
expect k ts = if next_is k ts then Ok (after ts) else stuck ts

-- the offset of the next token
abbrev pub offset_at : List Token → ℕ
offset_at [] = 0
offset_at (token k s e ∷ ts) = s

abbrev pub name_at : Read Word
name_at [] = stuck []
name_at (token (name text) s e ∷ ts) = Ok (record { text = text; at = s }, ts)
name_at (token other s e ∷ ts) = stuck (token other s e ∷ ts)

-- a type, or none, that the first of these tokens names, before the others
abbrev pub type_step : Option ElemType → Token → Read ElemType
type_step None t ts = stuck (t ∷ ts)
type_step (Some a) t ts = Ok (a, ts)

-- the name of a type
unfoldable pub type_at : Read ElemType
type_at [] = stuck []
type_at (token (mark k) s e ∷ ts) = type_step (type_of k) (token (mark k) s e) ts
type_at (token other s e ∷ ts) = stuck (token other s e ∷ ts)

-- whether a name stands next
abbrev pub begins_name : List Token → Bool
begins_name [] = false
begins_name (token (name x) s e ∷ ts) = true
begins_name (token other s e ∷ ts) = false

-- ---- lists

abbrev pub many_step : {A : Type 0} → Read A → Read (List A) → Bool → Read (List A)
many_step item others true ts = Ok ([], ts)
many_step item others false ts = do
  x ← item ts
  xs ← others x.1
  Ok (x.0 ∷ xs.0, xs.1)

-- items up to a mark, which is left; the number bounds the steps
unfoldable pub many_at : {A : Type 0} → Mark → Read A → ℕ → Read (List A)
many_at close item zero ts = stuck ts
many_at close item (suc n) ts = many_step item (many_at close item n) (next_is close ts) ts

-- one more item and the others, where one begins
abbrev pub while_step : {A : Type 0} → Read A → Read (List A) → Bool → Read (List A)
while_step item others false ts = Ok ([], ts)
while_step item others true ts = do
  x ← item ts
  xs ← others x.1
  Ok (x.0 ∷ xs.0, xs.1)

-- items as long as one begins; the number bounds the steps
unfoldable pub while_at : {A : Type 0} → (List Token → Bool) → Read A → ℕ → Read (List A)
while_at begins item zero ts = Ok ([], ts)
while_at begins item (suc n) ts = while_step item (while_at begins item n) (begins ts) ts

abbrev pub separated_step : {A : Type 0} → Read (List A) → A → Bool → Read (List A)
separated_step others x true ts = others (after ts) >>= λ xs. Ok (x ∷ xs.0, xs.1)
separated_step others x false ts = Ok (x ∷ [], ts)

-- an item, and another behind each separator; the number bounds the steps
unfoldable pub separated_at : {A : Type 0} → Mark → Read A → ℕ → Read (List A)
separated_at separator item zero ts = stuck ts
separated_at separator item (suc n) ts = item ts >>= λ x. separated_step (separated_at separator item n) x.0 (next_is separator x.1) x.1

-- as many items as there are tokens at the most
abbrev pub items_at : {A : Type 0} → Mark → Read A → Read (List A)
items_at close item ts = many_at close item (length ts) ts

abbrev pub all_at : {A : Type 0} → (List Token → Bool) → Read A → Read (List A)
all_at begins item ts = while_at begins item (length ts) ts

abbrev pub list_at : {A : Type 0} → Mark → Read A → Read (List A)
list_at separator item ts = separated_at separator item (length ts) ts

-- items and the mark behind them
unfoldable pub closed_at : {A : Type 0} → Mark → Read A → Read (List A)
closed_at close item ts = do
  xs ← items_at close item ts
  rest ← expect close xs.1
  Ok (xs.0, rest)

-- [opening {item} closing]
unfoldable pub section_at : {A : Type 0} → Mark → Mark → Read A → Read (List A)
section_at opening closing item ts = if next_is opening ts then closed_at closing item (after ts) else Ok ([], ts)

-- ---- all of the tokens

-- what was read, where nothing is left
abbrev pub ended : {A : Type 0} → A → List Token → Result A Wrong
ended x [] = Ok x
ended x (t ∷ ts) = stuck (t ∷ ts)

-- what all of the tokens are
abbrev pub whole_of : {A : Type 0} → Read A → List Token → Result A Wrong
whole_of read ts = read ts >>= λ x. ended x.0 x.1
