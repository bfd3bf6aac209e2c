-- What it is for a reader to be sound and complete, and the readers of single tokens.
use Rattle.std.proofs.Common.{◌≡◌, ℕ, ◌<◌, ◌⊎◌, Bool, true, false, cond, List, [], ◌∷◌, length, Result, Ok, Err, refl, sym, ap, subst, arith, inl, inr}
use denote.Enum.Bare.{same_true}
use Rattle.fb_words.specs.contracts.mark.Mark.{the_type}
use Rattle.fb_words.specs.declared.mark.Mark.{Mark}
use Rattle.fb_model.specs.Tokens.{Token, token, name, number, typed, duration, mark}
use Rattle.fb_model.specs.Productions.{Gram, IsName, a_name}
use Rattle.fb_read.specs.Reading.{Wrong, syntax, too_deep, stuck, Answer, Read, ◌>>=◌, is, next_is, after, expect, name_at}

-- ---- what is proved of readers

-- The tree and the rest of an answer are as the relation says.
abbrev pub Meets : {A : Type 0} → (A → List Token → Type 0) → Answer A → Type 0
Meets P (Ok x) = P x.0 x.1
Meets P (Err e) = Unit {0}

-- What is read is in the grammar.
abbrev pub Sound : {A : Type 0} → Gram A → Read A → Type 0
Sound {A} G r = (ts : List Token) → Meets (G ts) (r ts)

-- The value is found, or the nesting is at its end, which the fact says that it may be.
abbrev pub Gets : {A : Type 0} → Type 0 → Result A Wrong → A → Type 0
Gets Deep r v = (r ≡ Ok v) ⊎ ((left : ℕ) × Deep × (r ≡ Err (too_deep left)))

-- What is in the grammar is read, where the rest does not go on.
abbrev pub Complete : {A : Type 0} → Type 0 → (List Token → Bool) → Gram A → Read A → Type 0
Complete {A} Deep goes_on G r = (ts : List Token) (x : A) (rest : List Token) → G ts x rest → goes_on rest ≡ false → Gets Deep (r ts) (x, rest)

-- nothing goes on
abbrev pub never : List Token → Bool
never ts = false

-- Something is taken.
abbrev pub Shorter : {A : Type 0} → Gram A → Type 0
Shorter {A} G = (ts : List Token) (x : A) (rest : List Token) → G ts x rest → length rest < length ts

-- No tree begins with this mark.
abbrev pub Avoids : {A : Type 0} → Mark → Gram A → Type 0
Avoids {A} k G = (ts : List Token) (x : A) (rest : List Token) → G ts x rest → next_is k ts ≡ false

-- the nesting is never at its end
abbrev pub NotDeep : {A : Type 0} → Result A Wrong → Type 0
NotDeep (Ok x) = Unit {0}
NotDeep (Err (syntax left)) = Unit {0}
NotDeep (Err (too_deep left)) = ⊥

abbrev pub Shallow : {A : Type 0} → Read A → Type 0
Shallow r = (ts : List Token) → NotDeep (r ts)

-- ---- steps

-- a step, and what is done behind it
pub meets_then : {A B : Type 0} {P : A → List Token → Type 0} (Q : B → List Token → Type 0) (f : A × List Token → Answer B) (r : Answer A) → Meets P r → ((x : A) (rest : List Token) → P x rest → Meets Q (f (x, rest))) → Meets Q (r >>= f)
meets_then Q f (Ok x) h g = g x.0 x.1 h
meets_then Q f (Err e) h g = tt

-- what an answer meets, it meets in other words
pub meets_as : {A : Type 0} {P : A → List Token → Type 0} (Q : A → List Token → Type 0) (r : Answer A) → Meets P r → ((x : A) (rest : List Token) → P x rest → Q x rest) → Meets Q r
meets_as Q (Ok x) h g = g x.0 x.1 h
meets_as Q (Err e) h g = tt

-- one way of reading or another
pub meets_if : {A : Type 0} (P : A → List Token → Type 0) (b : Bool) (q r : Answer A) → Meets P q → Meets P r → Meets P (cond b q r)
meets_if P true q r h g = h
meets_if P false q r h g = g

pub gets_then : {A B : Type 0} {Deep : Type 0} (f : A → Result B Wrong) (w : B) (r : Result A Wrong) (v : A) → Gets Deep r v → Gets Deep (f v) w → Gets Deep (r >>= f) w
gets_then {Deep = Deep} f w r v (inl e) g = subst (λ q. Gets Deep (q >>= f) w) (sym e) g
gets_then f w r v (inr p) g = inr (p.0, p.1, ap (λ q. q >>= f) p.2)

-- what may be too deep for a reason may be so for a wider one
pub gets_wider : {A : Type 0} {P Q : Type 0} (f : P → Q) (r : Result A Wrong) (v : A) → Gets P r v → Gets Q r v
gets_wider f r v (inl e) = inl e
gets_wider f r v (inr p) = inr (p.0, f p.1, p.2)

pub shallow_then : {A B : Type 0} (f : A → Result B Wrong) (r : Result A Wrong) → NotDeep r → ((x : A) → NotDeep (f x)) → NotDeep (r >>= f)
shallow_then f (Ok x) h g = g x
shallow_then f (Err (syntax left)) h g = tt
shallow_then f (Err (too_deep left)) h g = h

-- ---- marks

same_mark : (a b : Mark) → is a b ≡ true → a ≡ b
same_mark a b e = same_true the_type tt a b e

-- the token that a test has seen
pub seen : (P : List Token → Type 0) (k : Mark) (ts : List Token) → next_is k ts ≡ true → P ts → (s : ℕ) × (e : ℕ) × P (token (mark k) s e ∷ after ts)
seen P k [] h p = absurd cc
seen P k (token (name x) s e ∷ ts) h p = absurd cc
seen P k (token (number n) s e ∷ ts) h p = absurd cc
seen P k (token (typed t b n) s e ∷ ts) h p = absurd cc
seen P k (token (duration b n) s e ∷ ts) h p = absurd cc
seen P k (token (mark l) s e ∷ ts) h p = (s, e, subst (λ j. P (token (mark j) s e ∷ ts)) (same_mark l k h) p)

-- something is left that a test has seen
pub some_left : (k : Mark) (ts : List Token) → next_is k ts ≡ true → 0 < length ts
some_left k [] h = absurd cc
some_left k (t ∷ ts) h = omega arith

-- this mark, and what is done behind it
pub expect_then : {B : Type 0} (P : List Token → Type 0) (Q : B → List Token → Type 0) (f : List Token → Answer B) (k : Mark) (ts : List Token) → P ts → ((s e : ℕ) (rest : List Token) → P (token (mark k) s e ∷ rest) → Meets Q (f rest)) → Meets Q (expect k ts >>= f)
expect_then P Q f k ts p g = by (next_is k ts) refl where
  by : (b : Bool) → next_is k ts ≡ b → Meets Q (cond b (Ok (after ts)) (stuck ts) >>= f)
  by true e = let q = seen P k ts e p in g q.0 q.1 (after ts) q.2
  by false e = tt

-- a production that this mark opens
pub opens : {B : Type 0} (G : List Token → B → List Token → Type 0) (f : List Token → Answer B) (k : Mark) (ts : List Token) → ((s e : ℕ) (rest : List Token) → Meets (G (token (mark k) s e ∷ rest)) (f rest)) → Meets (G ts) (expect k ts >>= f)
opens G f k ts g = by (next_is k ts) refl where
  by : (b : Bool) → next_is k ts ≡ b → Meets (G ts) (cond b (Ok (after ts)) (stuck ts) >>= f)
  by true e = let q = seen (λ l. ts ≡ l) k ts e refl in subst (λ l. Meets (G l) (f (after ts))) (sym q.2) (g q.0 q.1 (after ts))
  by false e = tt

-- what stands behind a mark that a test has seen
pub opened : {A : Type 0} (G : List Token → A → List Token → Type 0) (k : Mark) (ts : List Token) → next_is k ts ≡ true → (r : Answer A) → ((s e : ℕ) → Meets (G (token (mark k) s e ∷ after ts)) r) → Meets (G ts) r
opened G k ts e r g = let q = seen (λ l. ts ≡ l) k ts e refl in subst (λ l. Meets (G l) r) (sym q.2) (g q.0 q.1)

-- a mark that may stand next, with what stands behind it, or else
pub may_open : {A : Type 0} (G : List Token → A → List Token → Type 0) (k : Mark) (ts : List Token) (with without : Answer A) → ((s e : ℕ) → Meets (G (token (mark k) s e ∷ after ts)) with) → (next_is k ts ≡ false → Meets (G ts) without) → Meets (G ts) (cond (next_is k ts) with without)
may_open G k ts with without g h = by (next_is k ts) refl where
  by : (b : Bool) → next_is k ts ≡ b → Meets (G ts) (cond b with without)
  by true e = opened G k ts e with g
  by false e = h e

pub shallow_expect : (k : Mark) (ts : List Token) → NotDeep (expect k ts)
shallow_expect k ts = by (next_is k ts) where
  by : (b : Bool) → NotDeep (cond b (Ok (after ts)) (stuck ts))
  by true = tt
  by false = tt

pub shallow_if : {A : Type 0} (b : Bool) (q r : Result A Wrong) → NotDeep q → NotDeep r → NotDeep (cond b q r)
shallow_if true q r h g = h
shallow_if false q r h g = g

-- ---- names

pub name_sound : Sound IsName name_at
name_sound [] = tt
name_sound (token (name x) s e ∷ ts) = a_name
name_sound (token (number n) s e ∷ ts) = tt
name_sound (token (typed t b n) s e ∷ ts) = tt
name_sound (token (duration b n) s e ∷ ts) = tt
name_sound (token (mark k) s e ∷ ts) = tt

pub shallow_name : Shallow name_at
shallow_name [] = tt
shallow_name (token (name x) s e ∷ ts) = tt
shallow_name (token (number n) s e ∷ ts) = tt
shallow_name (token (typed t b n) s e ∷ ts) = tt
shallow_name (token (duration b n) s e ∷ ts) = tt
shallow_name (token (mark k) s e ∷ ts) = tt
