-- Wherever reading of a token stops, the tokens before that place can be gone on with.
use Rattle.std.proofs.Common.{◌≡◌, ℕ, Bool, true, false, cond, List, [], ◌∷◌, Ok, refl, sym, subst, codes}
use Rattle.std.specs.Str.{bytes_eq}
use Rattle.std.proofs.lemmas.Slice.Eq.{bytes_eq-Decides}
use Rattle.fb_words.specs.declared.mark.Mark.{Mark}
use Rattle.fb_words.specs.declared.mark.Mark.TheVariants as m
use Rattle.fb_model.specs.Tokens.{Token, token, name, number, typed, duration, mark}
use Rattle.fb_model.specs.Productions.{IsName, a_name}
use Rattle.fb_model.specs.Trees.{Constant, Whole}
use Rattle.fb_model.specs.StructuredTextGrammar.{IsLiteral, plain, with_type, time, yes, no}
use Rattle.fb_read.specs.Reading.{stuck, Read, ◌>>=◌, name_at}
use Rattle.st_parse.specs.ConstantReading.{number_at, marked_at, literal_at}
use Rattle.fb_text.specs.Reading.{word_at}
use Rattle.fb_text_laws.proofs.Fronts.{here, there}
use Rattle.fb_text_laws.proofs.Lexemes.{Spelled, number_spelled, x_spelled}
use Rattle.fb_text_laws.proofs.Steps.{Span, Any, Fills, Reached, GoesOn, Fine, fills_next, fills_token, stopped, goes_next, goes_as}

-- One token was read.
pub taken : (P : Span) (t : Token) (ts : List Token) → ((rest : List Token) → P (t ∷ rest) rest) → (rest : List Token) → Reached P (t ∷ ts) ts rest rest
taken P t ts h rest = record { all = t ∷ rest; same = there here; done = h rest }

fills_name : Fills (Any IsName)
fills_name = fills_token (Any IsName) (name (codes "X")) x_spelled (λ s e rest. (_, a_name))

name_goes : (ts : List Token) → GoesOn (Any IsName) ts (name_at ts)
name_goes [] = stopped (Any IsName) fills_name []
name_goes (token (name x) s e ∷ ts) = taken (Any IsName) (token (name x) s e) ts (λ rest. (_, a_name))
name_goes (token (number n) s e ∷ ts) = stopped (Any IsName) fills_name (token (number n) s e ∷ ts)
name_goes (token (typed t b n) s e ∷ ts) = stopped (Any IsName) fills_name (token (typed t b n) s e ∷ ts)
name_goes (token (duration b n) s e ∷ ts) = stopped (Any IsName) fills_name (token (duration b n) s e ∷ ts)
name_goes (token (mark k) s e ∷ ts) = stopped (Any IsName) fills_name (token (mark k) s e ∷ ts)

pub name_fine : Fine (Any IsName) name_at
name_fine = record { sample = record { text = []; at = 0 }; fills = fills_name; goes_on = name_goes }

-- the name of these characters, and what is done behind it
abbrev pub Named : List ℕ → Span → Span
Named text P us rest = (s e : ℕ) → P (token (name text) s e ∷ us) rest

pub fine_word : {A : Type 0} (P : Span) (text : List ℕ) → Spelled (name text) → (f : List Token → Read A) → ((l : List Token) → Fine (Named text P) (f l)) → Fine P (λ ts. word_at text ts >>= f ts)
fine_word {A} P text spelled f h = record { sample = (h []).sample; fills = fills; goes_on = goes } where
  fills : Fills P
  fills = fills_next P (name text) spelled (h []).fills

  goes : (ts : List Token) → GoesOn P ts (word_at text ts >>= f ts)
  goes [] = stopped P fills []
  goes (token (number n) s e ∷ ts) = stopped P fills (token (number n) s e ∷ ts)
  goes (token (typed t b n) s e ∷ ts) = stopped P fills (token (typed t b n) s e ∷ ts)
  goes (token (duration b n) s e ∷ ts) = stopped P fills (token (duration b n) s e ∷ ts)
  goes (token (mark k) s e ∷ ts) = stopped P fills (token (mark k) s e ∷ ts)
  goes (token (name x) s e ∷ ts) = by (bytes_eq x text) refl where
    by : (b : Bool) → bytes_eq x text ≡ b → GoesOn P (token (name x) s e ∷ ts) (cond b (Ok ts) (stuck (token (name x) s e ∷ ts)) >>= f (token (name x) s e ∷ ts))
    by true d =
        let same : x ≡ text = (bytes_eq-Decides x text).0 d in
        goes_next P (token (name x) s e) ts (f (token (name x) s e ∷ ts) ts)
        (goes_as ts (f (token (name x) s e ∷ ts) ts) (λ us rest p. subst (λ l. P (token (name l) s e ∷ us) rest) (sym same) (p s e)) ((h (token (name x) s e ∷ ts)).goes_on ts))
    by false d = stopped P fills (token (name x) s e ∷ ts)

-- ---- numbers and literals

-- a number without a type
pub data Num : List Token → List Token → Type 0 where
  num : {n s e : ℕ} {ts : List Token} → Num (token (number n) s e ∷ ts) ts

-- the constant 0
nought : Constant
nought = record { value = Whole false 0; at = 0 }

fills_number : Fills Num
fills_number = fills_token Num (number 0) number_spelled (λ s e rest. num)

number_goes : (b : Bool) (ts : List Token) → GoesOn Num ts (number_at b ts)
number_goes b [] = stopped Num fills_number []
number_goes b (token (name x) s e ∷ ts) = stopped Num fills_number (token (name x) s e ∷ ts)
number_goes b (token (number n) s e ∷ ts) = taken Num (token (number n) s e) ts (λ rest. num)
number_goes b (token (typed t c n) s e ∷ ts) = stopped Num fills_number (token (typed t c n) s e ∷ ts)
number_goes b (token (duration c n) s e ∷ ts) = stopped Num fills_number (token (duration c n) s e ∷ ts)
number_goes b (token (mark k) s e ∷ ts) = stopped Num fills_number (token (mark k) s e ∷ ts)

pub number_fine : (b : Bool) → Fine Num (number_at b)
number_fine b = record { sample = nought; fills = fills_number; goes_on = number_goes b }

-- a literal
pub data Lit : List Token → List Token → Type 0 where
  lit : {t : Token} {ts : List Token} {c : Constant} → IsLiteral t c → Lit (t ∷ ts) ts

fills_literal : Fills Lit
fills_literal = fills_token Lit (number 0) number_spelled (λ s e rest. lit plain)

marked_goes : (k : Mark) (s e : ℕ) (ts : List Token) → GoesOn Lit (token (mark k) s e ∷ ts) (marked_at k s ts)
marked_goes m.True s e ts = taken Lit (token (mark m.True) s e) ts (λ rest. lit yes)
marked_goes m.False s e ts = taken Lit (token (mark m.False) s e) ts (λ rest. lit no)
marked_goes other s e ts = stopped Lit fills_literal (token (mark other) s e ∷ ts)

literal_goes : (ts : List Token) → GoesOn Lit ts (literal_at ts)
unfolding literal_at
literal_goes [] = stopped Lit fills_literal []
literal_goes (token (name x) s e ∷ ts) = stopped Lit fills_literal (token (name x) s e ∷ ts)
literal_goes (token (number n) s e ∷ ts) = taken Lit (token (number n) s e) ts (λ rest. lit plain)
literal_goes (token (typed t b n) s e ∷ ts) = taken Lit (token (typed t b n) s e) ts (λ rest. lit with_type)
literal_goes (token (duration b n) s e ∷ ts) = taken Lit (token (duration b n) s e) ts (λ rest. lit time)
literal_goes (token (mark k) s e ∷ ts) = marked_goes k s e ts

pub literal_fine : Fine Lit literal_at
literal_fine = record { sample = nought; fills = fills_literal; goes_on = literal_goes }
