-- What is read of constants, events and variables is in the grammar.
use Rattle.std.proofs.Common.{◌≡◌, ℕ, Bool, true, false, cond, List, [], ◌∷◌, length, Option, Some, None, Ok, refl, sym, subst, codes}
use Rattle.std.specs.Str.{bytes_eq}
use Rattle.std.proofs.lemmas.Slice.Eq.{bytes_eq-Decides}
use Rattle.fb_words.specs.declared.mark.Mark.{Mark}
use Rattle.fb_words.specs.declared.mark.Mark.TheVariants as m
use Rattle.fb_words.specs.declared.elem_type.ElemType.{ElemType}
use Rattle.fb_words.specs.Writing.{type_of}
use Rattle.fb_model.specs.Tokens.{Token, token, name, number, typed, duration, mark}
use Rattle.fb_model.specs.Productions.{Word, IsName, IsSeparated}
use Rattle.fb_model.specs.Grammar.{IsConstant, negative, plain, with_type, time, yes, no}
use Rattle.fb_model.specs.StructuredTextGrammar.{IsInteger}
use Rattle.fb_model.specs.Declarations.{BoundsTree, StartTree, VariableTree}
use Rattle.fb_model.specs.DeclarationGrammar.{IsKind, unsaid, said, IsWith, alone, along, IsEvent, an_event, IsType, IsTypeName, a_type, IsStart, no_start, a_start, IsVariable, of_type, IsBounds, some_bounds, IsInternal, a_variable, an_array}
use Rattle.fb_model.specs.DeclarationGrammar as g
use Rattle.fb_read.specs.Reading.{stuck, Answer, ◌>>=◌, is, next_is, after, offset_at, name_at, type_step, type_at, list_at}
use Rattle.fb_read.proofs.Readers.{Meets, Sound, meets_then, meets_as, seen, expect_then, opens, may_open, name_sound}
use Rattle.fb_read.proofs.Repetitions.{separated_sound}
use Rattle.st_parse.specs.Reading.{integer_at}
use Rattle.st_parse.proofs.Labels.{integer_sound}
use Rattle.st_parse.specs.ConstantReading.{number_at, marked_at, literal_at}
use Rattle.fb_text.specs.Reading.{constant_at, word_at, kind_at, with_at, event_at, start_at, plain_at, names_at, variable_at, bounds_at, array_at, internal_at}

-- ---- constants

negative_sound : (s e : ℕ) (ts : List Token) → Meets (IsConstant (token (mark m.Minus) s e ∷ ts)) (number_at true ts)
negative_sound s e [] = tt
negative_sound s e (token (name x) s' e' ∷ ts) = tt
negative_sound s e (token (number n) s' e' ∷ ts) = negative
negative_sound s e (token (typed t b n) s' e' ∷ ts) = tt
negative_sound s e (token (duration b n) s' e' ∷ ts) = tt
negative_sound s e (token (mark k) s' e' ∷ ts) = tt

marked_sound : (k : Mark) (s e : ℕ) (ts : List Token) → Meets (IsConstant (token (mark k) s e ∷ ts)) (cond (is k m.Minus) (number_at true ts) (marked_at k s ts))
marked_sound m.Minus s e ts = negative_sound s e ts
marked_sound m.True s e ts = yes
marked_sound m.False s e ts = no
marked_sound other s e ts = tt

pub constant_sound : Sound IsConstant constant_at
unfolding constant_at literal_at
constant_sound [] = tt
constant_sound (token (name x) s e ∷ ts) = tt
constant_sound (token (number n) s e ∷ ts) = plain
constant_sound (token (typed t b n) s e ∷ ts) = with_type
constant_sound (token (duration b n) s e ∷ ts) = time
constant_sound (token (mark k) s e ∷ ts) = marked_sound k s e ts

-- ---- events

-- the name of these characters, and what is done behind it
pub word_then : {B : Type 0} (P : List Token → Type 0) (Q : B → List Token → Type 0) (f : List Token → Answer B) (text : List ℕ) (ts : List Token) → P ts → ((s e : ℕ) (rest : List Token) → P (token (name text) s e ∷ rest) → Meets Q (f rest)) → Meets Q (word_at text ts >>= f)
word_then P Q f text [] p g = tt
word_then P Q f text (token (number n) s e ∷ ts) p g = tt
word_then P Q f text (token (typed t b n) s e ∷ ts) p g = tt
word_then P Q f text (token (duration b n) s e ∷ ts) p g = tt
word_then P Q f text (token (mark k) s e ∷ ts) p g = tt
word_then P Q f text (token (name x) s e ∷ ts) p g = by (bytes_eq x text) refl where
  by : (b : Bool) → bytes_eq x text ≡ b → Meets Q (cond b (Ok ts) (stuck (token (name x) s e ∷ ts)) >>= f)
  by true h = let same : x ≡ text = (bytes_eq-Decides x text).0 h in g s e ts (subst (λ l. P (token (name l) s e ∷ ts)) same p)
  by false h = tt

kind_then : {B : Type 0} (Q : B → List Token → Type 0) (f : List Token → Answer B) (ts : List Token) → ((rest : List Token) → IsKind ts rest → Meets Q (f rest)) → Meets Q (kind_at ts >>= f)
kind_then Q f ts g = by (next_is m.Colon ts) refl where
  by : (b : Bool) → next_is m.Colon ts ≡ b → Meets Q (cond b (word_at (codes "EVENT") (after ts)) (Ok ts) >>= f)
  by true e =
      let q = seen (λ l. ts ≡ l) m.Colon ts e refl in
      word_then (λ l. ts ≡ token (mark m.Colon) q.0 q.1 ∷ l) Q f (codes "EVENT") (after ts) q.2 (λ s e rest r. g rest (subst (λ l. IsKind l rest) (sym r) said))
  by false e = g ts unsaid

with_sound : Sound IsWith with_at
unfolding with_at
with_sound ts = may_open IsWith m.With ts _ _ (λ s e. meets_as _ (list_at m.Comma name_at (after ts)) (separated_sound IsName name_at name_sound m.Comma (length (after ts)) (after ts)) (λ xs rest p. along p)) (λ h. alone)

pub event_sound : Sound IsEvent event_at
unfolding event_at
event_sound ts = meets_then _ _ (name_at ts) (name_sound ts) (λ x ts₁ p.
    kind_then _ _ ts₁ (λ ts₂ q.
    meets_then _ _ (with_at ts₂) (with_sound ts₂) (λ xs on r.
    expect_then (λ l. IsWith ts₂ xs l) _ _ m.Semicolon on r (λ s e rest r'. an_event p q r'))))

-- ---- types and start values

-- a mark is the name of this type, if of any
abbrev NamesType : Mark → Option ElemType → Type 0
NamesType k None = Unit {0}
NamesType k (Some a) = IsType k a

names_type : (k : Mark) → NamesType k (type_of k)
names_type m.Bool = g.bool
names_type m.Sint = g.sint
names_type m.Int = g.int
names_type m.Dint = g.dint
names_type m.Lint = g.lint
names_type m.Usint = g.usint
names_type m.Uint = g.uint
names_type m.Udint = g.udint
names_type m.Time = g.time
names_type other = tt

type_named : (k : Mark) (s e : ℕ) (ts : List Token) (o : Option ElemType) → NamesType k o → Meets (IsTypeName (token (mark k) s e ∷ ts)) (type_step o (token (mark k) s e) ts)
type_named k s e ts None h = tt
type_named k s e ts (Some a) h = a_type h

pub type_sound : Sound IsTypeName type_at
unfolding type_at
type_sound [] = tt
type_sound (token (name x) s e ∷ ts) = tt
type_sound (token (number n) s e ∷ ts) = tt
type_sound (token (typed t b n) s e ∷ ts) = tt
type_sound (token (duration b n) s e ∷ ts) = tt
type_sound (token (mark k) s e ∷ ts) = type_named k s e ts (type_of k) (names_type k)

start_sound : Sound IsStart start_at
unfolding start_at
start_sound ts = by (next_is m.Assign ts) refl where
  behind : (s e : ℕ) (on : List Token) → Meets (IsStart (token (mark m.Assign) s e ∷ on)) (constant_at on >>= λ c. Ok (Some (record { at = s; value = c.0 }), c.1))
  behind s e on = meets_then _ _ (constant_at on) (constant_sound on) (λ c rest p. a_start p)

  by : (b : Bool) → next_is m.Assign ts ≡ b → Meets (IsStart ts) (cond b (constant_at (after ts) >>= λ c. Ok (Some (record { at = offset_at ts; value = c.0 }), c.1)) (Ok (None, ts)))
  by true e =
      let q = seen (λ l. ts ≡ l) m.Assign ts e refl in
      subst (λ l. Meets (IsStart l) (constant_at (after l) >>= λ c. Ok (Some (record { at = offset_at l; value = c.0 }), c.1))) (sym q.2) (behind q.0 q.1 (after ts))
  by false e = no_start

-- ---- variables

-- names and the colon behind them
data IsNames : List Token → List Word → List Token → Type 0 where
  some_names : {s e : ℕ} {ts rest : List Token} {xs : List Word} → IsSeparated m.Comma IsName ts xs (token (mark m.Colon) s e ∷ rest) → IsNames ts xs rest

-- type [':=' const] ';', behind names
data IsPlain (xs : List Word) : List Token → VariableTree → List Token → Type 0 where
  a_plain : {s e : ℕ} {ts mid rest : List Token} {a : ElemType} {c : Option StartTree} → IsTypeName ts a mid → IsStart mid c (token (mark m.Semicolon) s e ∷ rest) → IsPlain xs ts (record { names = xs; bounds = None; type = a; start = c }) rest

-- '[' int '..' int ']' OF type ';', behind names and ARRAY
data IsArray (xs : List Word) : List Token → VariableTree → List Token → Type 0 where
  some_arrays : {s e s' e' : ℕ} {ts mid rest : List Token} {b : BoundsTree} {a : ElemType} → IsBounds ts b (token (mark m.Of) s e ∷ mid) → IsTypeName mid a (token (mark m.Semicolon) s' e' ∷ rest) → IsArray xs ts (record { names = xs; bounds = Some b; type = a; start = None }) rest

names_sound : Sound IsNames names_at
unfolding names_at
names_sound ts = meets_then _ _ (list_at m.Comma name_at ts) (separated_sound IsName name_at name_sound m.Comma (length ts) ts) (λ xs on p.
    expect_then (λ l. IsSeparated m.Comma IsName ts xs l) _ _ m.Colon on p (λ s e rest p'. some_names p'))

plain_sound : (xs : List Word) → Sound (IsPlain xs) (plain_at xs)
unfolding plain_at
plain_sound xs ts = meets_then _ _ (type_at ts) (type_sound ts) (λ a mid p.
    meets_then _ _ (start_at mid) (start_sound mid) (λ c on q.
    expect_then (λ l. IsStart mid c l) _ _ m.Semicolon on q (λ s e rest q'. a_plain p q')))

variable_of : {ts mid : List Token} {xs : List Word} → IsNames ts xs mid → (v : VariableTree) (rest : List Token) → IsPlain xs mid v rest → IsVariable ts v rest
variable_of (some_names p) v rest (a_plain q r) = of_type p q r

pub variable_sound : Sound IsVariable variable_at
unfolding variable_at
variable_sound ts = meets_then _ _ (names_at ts) (names_sound ts) (λ xs mid p. meets_as _ (plain_at xs mid) (plain_sound xs mid) (variable_of p))

pub bounds_sound : Sound IsBounds bounds_at
unfolding bounds_at
bounds_sound ts = opens IsBounds _ m.LBracket ts (λ s e on.
    meets_then _ _ (integer_at on) (integer_sound on) (λ c dots p.
    expect_then (λ l. IsInteger on c l) _ _ m.DotDot dots p (λ s' e' mid p'.
    meets_then _ _ (integer_at mid) (integer_sound mid) (λ d close q.
    expect_then (λ l. IsInteger mid d l) _ _ m.RBracket close q (λ s'' e'' rest q'. some_bounds p' q')))))

array_sound : (xs : List Word) → Sound (IsArray xs) (array_at xs)
unfolding array_at
array_sound xs ts = meets_then _ _ (bounds_at ts) (bounds_sound ts) (λ b on p.
    expect_then (λ l. IsBounds ts b l) _ _ m.Of on p (λ s e mid p'.
    meets_then _ _ (type_at mid) (type_sound mid) (λ a end q.
    expect_then (λ l. IsTypeName mid a l) _ _ m.Semicolon end q (λ s' e' rest q'. some_arrays p' q'))))

array_of : {s e : ℕ} {ts on : List Token} {xs : List Word} → IsNames ts xs (token (mark m.Array) s e ∷ on) → (v : VariableTree) (rest : List Token) → IsArray xs on v rest → IsInternal ts v rest
array_of (some_names p) v rest (some_arrays q r) = an_array p q r

internal_of : (ts mid : List Token) (xs : List Word) → IsNames ts xs mid → Meets (IsInternal ts) (cond (next_is m.Array mid) (array_at xs (after mid)) (plain_at xs mid))
internal_of ts mid xs p = by (next_is m.Array mid) refl where
  by : (b : Bool) → next_is m.Array mid ≡ b → Meets (IsInternal ts) (cond b (array_at xs (after mid)) (plain_at xs mid))
  by true e = let q = seen (λ l. IsNames ts xs l) m.Array mid e p in meets_as _ (array_at xs (after mid)) (array_sound xs (after mid)) (array_of q.2)
  by false e = meets_as _ (plain_at xs mid) (plain_sound xs mid) (λ v rest r. a_variable (variable_of p v rest r))

pub internal_sound : Sound IsInternal internal_at
unfolding internal_at
internal_sound ts = meets_then _ _ (names_at ts) (names_sound ts) (λ xs mid p. internal_of ts mid xs p)
